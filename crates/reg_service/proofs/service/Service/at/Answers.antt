use Rattle.std.proofs.Common.{sym, ap}
use Rattle.reg_machine.specs.History.{State}
use Rattle.reg_service.specs.Opening.{Served}
use Rattle.reg_service.proofs.Keeping.{kept_at, stopped_at, served_later}
use Rattle.reg_service.proofs.service.Service.at.Goals as goal

-- the clock alone moved
pub returns-in-Ok-clause-kept : goal.returns-in-Ok-clause-kept
returns-in-Ok-clause-kept g c =
    kept_at g.K.Keeper c.self.inside.machine c.self.inside.keeper _ _ _ c.self.invariant (g.met.K.Keeper.stop_now c.self.inside.keeper) (g.met.K.Keeper.stop_only_now c.self.inside.keeper) (cc) (cc) (sym (ap (λ (t : State). t.history) c.in-Ok.ensures))

pub returns-in-Err-clause-kept : goal.returns-in-Err-clause-kept
returns-in-Err-clause-kept g c =
    stopped_at g.K.Keeper c.self.inside.machine c.self.inside.keeper _ _ c.self.invariant (g.met.K.Keeper.stop_now c.self.inside.keeper) (g.met.K.Keeper.stop_only_now c.self.inside.keeper) (cc) (cc)

pub returns-in-Ok-clause-still : goal.returns-in-Ok-clause-still
returns-in-Ok-clause-still g c = ap (λ (v : Served g.row.K.Denot). g.K.Keeper.keep_faults v.keeper) c.self.view_is

pub returns-in-Err-clause-still : goal.returns-in-Err-clause-still
returns-in-Err-clause-still g c = ap (λ (v : Served g.row.K.Denot). g.K.Keeper.keep_faults v.keeper) c.self.view_is

-- and so the service goes on at the later moment
pub invariant_of-result : goal.invariant_of-result
invariant_of-result g c = served_later c.self.inside.machine c.in-Ok.machine _ _ _ c.self.invariant (rw c.clock.ensures at c.later_of-now.ensures.no_earlier) c.in-Ok.ensures
