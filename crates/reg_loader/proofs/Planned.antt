-- What is kept of a walk comes to the plan.
use Rattle.std.proofs.Common.{◌≡◌, ℕ, true, false, not, List, length, map, Ok, Err, refl, sym, ap, subst, ◌∙◌, arith}
use Rattle.std.specs.Prelude.{string_bytes}
use Rattle.std.specs.List.{AllByRecursion}
use Rattle.reg_base.specs.Names.{is_name}
use Rattle.reg_terms.specs.declared.rows.JobRow.{JobRow}
use Rattle.reg_facts.specs.Lists.{Lists}
use Rattle.reg_facts.specs.Named.{AreNamed}
use Rattle.reg_facts.specs.Sound.{IsSound}
use Rattle.reg_facts.proofs.Places.{all_filter}
use Rattle.reg_effect.specs.declared.live.Live.{Live}
use Rattle.reg_loader.specs.declared.fates.Fates.{Fates}
use Rattle.reg_loader.specs.declared.plans.Plan.{Plan}
use Rattle.reg_loader.specs.declared.plans.PlanFault.TheVariants.{IsComposite, Failsafe}
use Rattle.reg_loader.specs.declared.tables.TableRow.{TableRow}
use Rattle.reg_loader.specs.declared.walking.Walked.{Walked}
use Rattle.reg_loader.specs.Plan.{GroupStands, Key, added, is_added, is_among, is_composite_target, plan_of, planned, removed, repeats, standing, is_too_many, unchanged, vetoed, wanted}
use Rattle.reg_loader.specs.Walks.{AreTold, IsTold, IsWalkedBy, plan_told}
use Rattle.reg_loader.proofs.Lists.{all_unmap}
use Rattle.reg_loader.proofs.Named.{created_form, standing_told, wanted_told}

module _ (L : Live) (job : JobRow) (rows : List TableRow) (f : Lists) where
  pub planned_composite : is_composite_target job.target f ≡ true → Err IsComposite ≡ planned L job rows f
  unfolding planned
  planned_composite bad = rw bad refl

  pub planned_failsafe : (before removes : ℕ) → is_composite_target job.target f ≡ false → before ≡ length (standing job.target f) → removes ≡ length (removed (standing job.target f) (wanted job rows f)) → is_too_many job before removes ≡ true
      → Err (Failsafe before removes) ≡ planned L job rows f
  unfolding planned
  planned_failsafe before removes good b r over = rw (good, ← b, ← r, over) refl

  pub planned_ok : (before removes : ℕ) (plan : Plan) → is_composite_target job.target f ≡ false → before ≡ length (standing job.target f) → removes ≡ length (removed (standing job.target f) (wanted job rows f)) → is_too_many job before removes ≡ false
      → plan ≡ plan_of L job rows f → Ok plan ≡ planned L job rows f
  unfolding planned
  planned_ok before removes plan good b r under is = rw (good, ← b, ← r, under, is) refl

  module _ (w : Walked) (walked : IsWalkedBy job f rows w) where
    repeats_are : w.repeated ≡ repeats job rows f
    repeats_are = omega (arith, walked.repeated_are)

    gone_is : (there gone : List Key) → there ≡ standing job.target f → gone ≡ removed there w.wanted.keys → gone ≡ removed (standing job.target f) (wanted job rows f)
    gone_is there gone t g = g ∙ ap (λ (ts : List Key). removed ts w.wanted.keys) t ∙ ap (removed (standing job.target f)) walked.keys_are

    pub plan_is : (there gone : List Key) (fates : Fates) → there ≡ standing job.target f → gone ≡ removed there w.wanted.keys
        → fates.added.items ≡ added L there f w.wanted.keys → fates.unchanged ≡ length (unchanged there w.wanted.keys) → fates.vetoed ≡ length (vetoed L there f w.wanted.keys)
        → plan_told (map (λ t. string_bytes t) w.names.keys) f gone w fates ≡ plan_of L job rows f
    plan_is there gone fates t g a u v = rw (g, a, u, v, t, walked.names_are, walked.keys_are, walked.bad_are, walked.unknown_are, repeats_are) refl

    pub removes_is : (there gone : List Key) (removes : ℕ) → there ≡ standing job.target f → gone ≡ removed there w.wanted.keys → removes ≡ length gone → removes ≡ length (removed (standing job.target f) (wanted job rows f))
    removes_is there gone removes t g r = r ∙ ap length (gone_is there gone t g)

    pub names_form : AllByRecursion (λ t. is_name (string_bytes t) ≡ true) w.names.keys
    names_form = all_unmap (λ (name : List ℕ). is_name name ≡ true) (λ t. string_bytes t) w.names.keys (subst (λ (names : List (List ℕ)). AllByRecursion (λ (name : List ℕ). is_name name ≡ true) names) (sym walked.names_are) (created_form job.target rows f))

    module _ (s : IsSound f) (n : AreNamed f) (target : GroupStands job.target f) where
      pub gone_told : (there gone : List Key) → there ≡ standing job.target f → gone ≡ removed there w.wanted.keys → AreTold (map (λ t. string_bytes t) w.names.keys) f gone
      gone_told there gone t g =
          let names = map (λ t. string_bytes t) w.names.keys in
          subst (λ (keys : List Key). AreTold names f keys) (sym (g ∙ ap (λ (ts : List Key). removed ts w.wanted.keys) t))
          (all_filter (λ (key : Key). IsTold names f key.0) (λ (key : Key). not (is_among key w.wanted.keys)) (standing job.target f) (standing_told names job.target f s n target))

      pub added_told : (there keys : List Key) → keys ≡ added L there f w.wanted.keys → AreTold (map (λ t. string_bytes t) w.names.keys) f keys
      added_told there keys a =
          let all = wanted_told job rows f s n target walked.known in
          let here : AreTold (map (λ t. string_bytes t) w.names.keys) f w.wanted.keys = rw (walked.names_are, walked.keys_are) all in
          subst (λ (ks : List Key). AreTold (map (λ t. string_bytes t) w.names.keys) f ks) (sym a)
          (all_filter (λ (key : Key). IsTold (map (λ t. string_bytes t) w.names.keys) f key.0) (is_added L there f) w.wanted.keys here)
