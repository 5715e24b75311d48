use Rattle.std.proofs.Common.{◌≡◌, drop}
use Rattle.std.specs.List.{list_any}
use Rattle.reg_load.specs.PersonRows.{stands}
use Rattle.reg_load.proofs.standing.any_stands.Given as goal

-- none so far, so it is one of the rest
abbrev pub invariant-loop-row : goal.invariant-loop-row
invariant-loop-row l = list_any (stands l.facts.rows) (drop l.row-index l.rows) ≡ list_any (stands l.facts.rows) l.rows
