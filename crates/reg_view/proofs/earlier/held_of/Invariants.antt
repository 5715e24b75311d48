use Rattle.std.proofs.Common.{◌≡◌, ◌++◌, drop}
use Rattle.reg_view.specs.Held.{held_of}
use Rattle.reg_view.specs.Past.{live_at}
use Rattle.reg_view.proofs.earlier.held_of.Given as goal

-- the privileges so far, and those of the grants that are left
abbrev pub invariant-loop-grant : goal.invariant-loop-grant
invariant-loop-grant g l = l.list ++ held_of (live_at l.machine l.t) l.who (drop l.grant-index l.grants) ≡ held_of (live_at l.machine l.t) l.who l.grants
