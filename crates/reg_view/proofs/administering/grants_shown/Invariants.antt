use Rattle.std.proofs.Common.{◌≡◌, ◌++◌, drop, map}
use Rattle.reg_view.specs.Past.{past_at}
use Rattle.reg_view.specs.Texts.{grant_shown}
use Rattle.reg_view.proofs.administering.grants_shown.Given as goal

-- the grants so far, and those that are left
abbrev pub invariant-loop-grant : goal.invariant-loop-grant
invariant-loop-grant g l = l.shown ++ map (grant_shown (past_at l.machine) l.facts) (drop l.grant-index l.grants) ≡ map (grant_shown (past_at l.machine) l.facts) l.grants
