use Rattle.std.proofs.Common.{subst, Ok, ◌≡◌, List, Result, ℕ}
use Rattle.reg_service.specs.Opening.{Served, payloads_of}
use Rattle.reg_service.proofs.Keeping.{leaves_history}
use Rattle.reg_service.proofs.service.Service.stamp.Goals as goal

-- a stop since now leaves the history
pub returns-clause-leaves : goal.returns-clause-leaves
returns-clause-leaves g c =
    subst (λ (v : Served g.row.K.Denot). (r : Result (List (List ℕ)) ℕ) → g.K.Keeper.stopped_since v.keeper c.stamp.result r → r ≡ Ok (payloads_of v.state.history)) c.self.view_is
    (λ r left. leaves_history g.K.Keeper c.self.inside.machine c.self.inside.keeper c.self.invariant (g.met.K.Keeper.stop_now c.self.inside.keeper) r
    (g.met.K.Keeper.stop_only_now c.self.inside.keeper r (subst (λ (t : ℕ). g.K.Keeper.stopped_since c.self.inside.keeper t r) c.stamp.ensures left)))
