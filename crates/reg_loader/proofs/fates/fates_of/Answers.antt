use Rattle.std.proofs.Common.{◌≡◌, List, length, subst, ap}
use Rattle.std.specs.Prelude.{ℕ, IfOk}
use Rattle.reg_loader.specs.declared.fates.Fates.{Fates}
use Rattle.reg_loader.specs.Plan.{Key}
use Rattle.reg_loader.proofs.Lasting.{set_added, set_unchanged, set_vetoed}
use Rattle.reg_loader.proofs.fates.fates_of.Goals as goal

pub returns-clause-added : goal.returns-clause-added
returns-clause-added g c =
    subst (λ (keys : List Key). IfOk c.told.result (λ (fates : Fates). fates.added.items ≡ keys)) (set_added c.args.there.now c.in_ok-set.set.keys c.in_ok-set.ensures (g.K.Kept.held c.args.kept.now) c.args.facts.now c.args.keys.now) c.told.ensures.added

pub returns-clause-unchanged : goal.returns-clause-unchanged
returns-clause-unchanged g c =
    subst (λ (n : ℕ). IfOk c.told.result (λ (fates : Fates). fates.unchanged ≡ n)) (ap length (set_unchanged c.args.there.now c.in_ok-set.set.keys c.in_ok-set.ensures c.args.keys.now)) c.told.ensures.unchanged

pub returns-clause-vetoed : goal.returns-clause-vetoed
returns-clause-vetoed g c =
    subst (λ (n : ℕ). IfOk c.told.result (λ (fates : Fates). fates.vetoed ≡ n)) (ap length (set_vetoed c.args.there.now c.in_ok-set.set.keys c.in_ok-set.ensures (g.K.Kept.held c.args.kept.now) c.args.facts.now c.args.keys.now)) c.told.ensures.vetoed
