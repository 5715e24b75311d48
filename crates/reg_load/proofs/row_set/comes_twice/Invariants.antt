use Rattle.std.proofs.Common.{◌≡◌, ◌||◌, drop}
use Rattle.std.specs.List.{list_any}
use Rattle.reg_load.specs.PersonRows.{comes_twice}
use Rattle.reg_load.specs.Sets.{holds}
use Rattle.reg_load.proofs.row_set.comes_twice.Given as goal

-- one of the rest was seen, or comes twice among them
abbrev pub invariant-loop-row : goal.invariant-loop-row
invariant-loop-row l = (list_any (holds l.seen) (drop l.row-index l.rows) || comes_twice (drop l.row-index l.rows)) ≡ comes_twice l.rows
