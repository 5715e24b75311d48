use Rattle.std.proofs.Common.{subst, Ok, ◌≡◌, List, Result, ℕ}
use Rattle.reg_service.specs.Opening.{Served, FrontsReopen, payloads_of}
use Rattle.reg_service.proofs.Keeping.{leaves_history}
use Rattle.reg_service.proofs.service.Service.law_stops.Goals as goal

-- a stop leaves the history
pub returns-clause-leaves : goal.returns-clause-leaves
returns-clause-leaves g c =
    subst (λ (v : Served g.row.K.Denot). (r : Result (List (List ℕ)) ℕ) → g.K.Keeper.stop_leaves v.keeper r → r ≡ Ok (payloads_of v.state.history)) c.self.view_is
    (leaves_history g.K.Keeper c.self.inside.machine c.self.inside.keeper c.self.invariant (g.met.K.Keeper.stop_now c.self.inside.keeper))

-- of which each front opens again
pub returns-clause-fronts : goal.returns-clause-fronts
returns-clause-fronts g c = subst (λ (v : Served g.row.K.Denot). FrontsReopen v.state.history) c.self.view_is c.self.invariant.opens
