use Rattle.std.proofs.Common.{◌≡◌, string_bytes}
use Rattle.reg_facts.specs.Children.{no_names, with_names}
use Rattle.reg_facts.proofs.child_names.names_of.Given as goal

-- the names so far, with those that are left, are all
abbrev pub invariant-loop-extension : goal.invariant-loop-extension
invariant-loop-extension l = with_names string_bytes l.home l.extension-iterator l.names ≡ with_names string_bytes l.home l.initial.extension-iterator no_names
