use Rattle.std.proofs.Common.{◌≡◌}
use Rattle.std.specs.Prelude.{filter_map}
use Rattle.reg_facts.specs.Ruling.{entry_made, put_all}
use Rattle.reg_edit.proofs.creation.gather.Given as goal

-- with the grants of the rules that are left the same comes of it
abbrev pub invariant-loop-row : goal.invariant-loop-row
invariant-loop-row l = put_all l.found.entries (filter_map (entry_made l.group l.home) l.row-iterator) ≡ put_all l.fn.found.entries (filter_map (entry_made l.group l.home) l.initial.row-iterator)
