use Rattle.std.proofs.Common.{◌≡◌}
use Rattle.std.specs.List.{list_any}
use Rattle.reg_priv.specs.Grants.{gives_one}
use Rattle.reg_priv.specs.May.{allows}
use Rattle.reg_priv.proofs.granting.any_written.Given as goal

-- none so far, so it is one of the rest
abbrev pub invariant-loop-row : goal.invariant-loop-row
invariant-loop-row g l = list_any (gives_one (allows (g.K.Kept.held l.kept) l.who l.wanted)) l.row-iterator ≡ list_any (gives_one (allows (g.K.Kept.held l.kept) l.who l.wanted)) l.fn.rows
