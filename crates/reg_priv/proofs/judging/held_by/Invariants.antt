use Rattle.std.proofs.Common.{◌≡◌, ◌++◌, drop, filter, map}
use Rattle.reg_priv.specs.Grants.{Grant}
use Rattle.reg_priv.specs.May.{holds}
use Rattle.reg_priv.proofs.judging.held_by.Given as goal

-- those so far, and those among the rest, are all
abbrev pub invariant-loop-grant : goal.invariant-loop-grant
invariant-loop-grant g l = l.held.items ++ map (λ (x : Grant). x.0) (filter (λ (x : Grant). holds (g.K.Kept.held l.kept) l.who x.1) (drop l.grant-index l.grants)) ≡ map (λ (x : Grant). x.0) (filter (λ (x : Grant). holds (g.K.Kept.held l.kept) l.who x.1) l.grants)
