use Rattle.std.proofs.Common.{◌≡◌, List, ℕ, ◌++◌, IfSome, Some, subst, sym, ap, ◌∙◌}
use Rattle.reg_service.specs.Opening.{Served, IsServed, payloads_of}
use Rattle.reg_service.specs.Waiting.{Waits}
use Rattle.reg_service.specs.Kept.{KeptOn, Stopped}
use Rattle.reg_service.specs.Holding.{first_of}
use Rattle.reg_service.proofs.Settling.{settled_on, settled_part, served_settled}
use Rattle.reg_service.proofs.holding.Service+Waiting.settle.Goals as goal

-- the service goes on over the keeper
pub invariant_of-result : goal.invariant_of-result
invariant_of-result g c =
    let has = subst (λ (v : Served Waits). IfSome (g.K.Keeper.payloads c.args.keeper) (λ ps. ps ≡ payloads_of (first_of v))) (sym c.self.view_is) c.requires.payloads in
    let served = subst (λ (l : List (List ℕ)). IsServed c.self.inside.machine (Some (payloads_of c.self.inside.keeper.before ++ l)) c.self.inside.keeper.short) (sym c.held.ensures.held) c.self.invariant in
    served_settled c.self.inside.keeper.before c.held.result.now c.self.inside.machine (g.K.Keeper.payloads c.args.keeper) _ _ _ served has c.in-Ok.ensures.kept c.in-Ok.ensures.going

-- and so does the history
pub returns-in-Ok-clause-kept : goal.returns-in-Ok-clause-kept
returns-in-Ok-clause-kept g c =
    let k = g.K.Keeper in
    let has = subst (λ (v : Served Waits). IfSome (k.payloads c.args.keeper) (λ ps. ps ≡ payloads_of (first_of v))) (sym c.self.view_is) c.requires.payloads in
    let all = ap (λ (l : List (List ℕ)). payloads_of c.self.inside.keeper.before ++ l) c.held.ensures.held ∙ c.self.invariant.payloads in
    subst (λ (v : Served Waits). KeptOn k (first_of v) c.args.keeper v.state.history c.append_all.new.self) c.self.view_is
    (settled_on c.self.inside.keeper.before c.held.result.now c.self.inside.machine.history k c.args.keeper c.append_all.new.self all has c.append_all.ensures.any_moment c.append_all.result c.append_all.ensures.kept c.append_all.ensures.failed c.append_all.ensures.object c.append_all.ensures.cause.later)

pub returns-in-Err-clause-given_back : goal.returns-in-Err-clause-given_back
returns-in-Err-clause-given_back g c =
    let k = g.K.Keeper in
    let has = subst (λ (v : Served Waits). IfSome (k.payloads c.args.keeper) (λ ps. ps ≡ payloads_of (first_of v))) (sym c.self.view_is) c.requires.payloads in
    let all = ap (λ (l : List (List ℕ)). payloads_of c.self.inside.keeper.before ++ l) c.held.ensures.held ∙ c.self.invariant.payloads in
    subst (λ (v : Served Waits). KeptOn k (first_of v) c.args.keeper v.state.history c.append_all.new.self) c.self.view_is
    (settled_on c.self.inside.keeper.before c.held.result.now c.self.inside.machine.history k c.args.keeper c.append_all.new.self all has c.append_all.ensures.any_moment c.append_all.result c.append_all.ensures.kept c.append_all.ensures.failed c.append_all.ensures.object c.append_all.ensures.cause.later)

-- a stop leaves a history between
pub returns-in-Err-clause-stopped : goal.returns-in-Err-clause-stopped
returns-in-Err-clause-stopped g c =
    let k = g.K.Keeper in
    let has = subst (λ (v : Served Waits). IfSome (k.payloads c.args.keeper) (λ ps. ps ≡ payloads_of (first_of v))) (sym c.self.view_is) c.requires.payloads in
    let all = ap (λ (l : List (List ℕ)). payloads_of c.self.inside.keeper.before ++ l) c.held.ensures.held ∙ c.self.invariant.payloads in
    subst (λ (v : Served Waits). IfSome (k.payloads c.args.keeper) (λ ps. Stopped k (first_of v) v.state.history c.append_all.new.self)) c.self.view_is
    (settled_part c.self.inside.keeper.before c.held.result.now c.self.inside.machine.history k c.args.keeper c.append_all.new.self all has c.append_all.ensures.any_moment c.self.invariant.opens (g.met.K.Keeper.stop_counts_now c.append_all.new.self))
