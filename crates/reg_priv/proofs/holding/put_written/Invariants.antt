use Rattle.std.proofs.Common.{◌≡◌, ◌||◌}
use Rattle.std.specs.List.{list_any}
use Rattle.reg_priv.specs.Filling.{same_grant, is_among}
use Rattle.reg_priv.specs.Grants.{Grant, gives_one}
use Rattle.reg_priv.proofs.holding.put_written.Given as goal

-- what was put so far and the rest are all
abbrev pub invariant-loop-row : goal.invariant-loop-row
invariant-loop-row l = (x : Grant) → (is_among x l.found || list_any (gives_one (same_grant x)) l.row-iterator) ≡ (is_among x l.fn.found || list_any (gives_one (same_grant x)) l.fn.rows)
