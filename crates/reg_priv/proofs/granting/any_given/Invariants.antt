use Rattle.std.proofs.Common.{◌≡◌}
use Rattle.std.specs.List.{list_any}
use Rattle.reg_priv.specs.Lending.{lends}
use Rattle.reg_priv.proofs.granting.any_given.Given as goal

-- none so far, so it is one of the rest
abbrev pub invariant-loop-row : goal.invariant-loop-row
invariant-loop-row g l = list_any (lends (g.K.Kept.held l.kept) l.who l.wanted l.object l.scope) l.row-iterator ≡ list_any (lends (g.K.Kept.held l.kept) l.who l.wanted l.object l.scope) l.fn.rows
