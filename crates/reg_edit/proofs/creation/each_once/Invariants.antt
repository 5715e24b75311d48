use Rattle.std.proofs.Common.{◌≡◌, ◌++◌}
use Rattle.std.specs.Option.{option_to_list}
use Rattle.reg_facts.specs.Rules.{not_yet}
use Rattle.reg_edit.proofs.creation.each_once.Given as goal

-- those so far, and of those that are left the new ones, are all
abbrev pub invariant-loop-row : goal.invariant-loop-row
invariant-loop-row l = l.rows ++ not_yet l.rows l.row-iterator ≡ option_to_list l.fn.first ++ not_yet (option_to_list l.fn.first) l.initial.row-iterator
