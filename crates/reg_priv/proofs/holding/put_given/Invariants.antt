use Rattle.std.proofs.Common.{◌≡◌, ◌||◌}
use Rattle.std.specs.List.{list_any}
use Rattle.reg_priv.specs.Filling.{is_among, brings}
use Rattle.reg_priv.specs.Grants.{Grant}
use Rattle.reg_priv.proofs.holding.put_given.Given as goal

-- what was put so far and the rest are all
abbrev pub invariant-loop-row : goal.invariant-loop-row
invariant-loop-row l = (x : Grant) → (is_among x l.found || list_any (brings l.object l.scope x) l.row-iterator) ≡ (is_among x l.fn.found || list_any (brings l.object l.scope x) l.fn.rows)
