use Rattle.std.proofs.Common.{◌≡◌, drop}
use Rattle.std.specs.List.{list_all}
use Rattle.reg_load.specs.PersonRows.{stands}
use Rattle.reg_load.proofs.standing.all_stand.Given as goal

-- all so far, so it is up to the rest
abbrev pub invariant-loop-row : goal.invariant-loop-row
invariant-loop-row l = list_all (stands l.facts.rows) (drop l.row-index l.rows) ≡ list_all (stands l.facts.rows) l.rows
