use Rattle.std.proofs.Common.{subst}
use Rattle.reg_service.specs.Opening.{Served}
use Rattle.reg_service.specs.Kept.{KeptOn}
use Rattle.reg_service.proofs.Keeping.{kept_same}
use Rattle.reg_service.proofs.service.Service.stays.Goals as goal

-- the keeper goes on
pub returns : goal.returns
returns g c =
    subst (λ (v : Served g.row.K.Denot). KeptOn g.K.Keeper v.state.history v.keeper v.state.history v.keeper) c.self.view_is
    (kept_same g.K.Keeper c.self.inside.machine c.self.inside.keeper c.self.invariant (g.met.K.Keeper.stop_now c.self.inside.keeper) (g.met.K.Keeper.stop_only_now c.self.inside.keeper))
