-- Actions change the facts as their events do.
use Rattle.std.proofs.Common.{◌≡◌, ℕ, List, [], ◌∷◌, false, not, Some, None, refl, ◌∙◌, ap, subst, inl, inr}
use Rattle.std.proofs.lemmas.Bool.{cases_Bool, or_from}
use Rattle.std.specs.List.{find}
use Rattle.reg_terms.specs.declared.kinds.Member.{Member}
use Rattle.reg_terms.specs.declared.kinds.Member.TheVariants.{Person}
use Rattle.reg_terms.specs.declared.rows.MemberRow.{MemberRow}
use Rattle.reg_terms.specs.Rows.{is_row, has_row}
use Rattle.reg_facts.specs.Events.{happened, all_happened}
use Rattle.reg_facts.specs.Lists.{Lists}
use Rattle.reg_facts.specs.Sound.{AreRowsOnce}
use Rattle.reg_facts.proofs.Joined.{rows_once_filter, rows_once_windowed}
use Rattle.reg_rules.specs.declared.actions.Action.{Action}
use Rattle.reg_rules.specs.declared.actions.Action.TheVariants.{Removed, Ended}
use Rattle.reg_rules.specs.Actions.{done, all_done, event_of, events_of}
use Rattle.reg_rules.proofs.Acting.{none_windowed, windowed_rows}
use Rattle.reg_rules.proofs.Spending.{cases_row}

none_has : (g : ℕ) (m : Member) (rows : List MemberRow) → find (is_row g m) rows ≡ None → has_row g m rows ≡ false
none_has g m [] h = refl
none_has g m (row ∷ rows) h = elim (cases_Bool (is_row g m row)) [
  | inl y ↦ absurd (some (rw y at h))
  | inr n ↦ or_from (is_row g m row) (has_row g m rows) n (none_has g m rows (rw n at h))
]
  where
    some : Some row ≡ None → ⊥
    some k = cc

done_is : (action : Action) (f : Lists) → AreRowsOnce f.rows → happened (event_of action f) f ≡ done action f
done_is (Removed rule g s) f once = refl
done_is (Ended rule g s until) f once = elim (cases_row (find (is_row g (Person s)) f.rows)) [
  | inl none ↦ rw none (ap (λ rows. record f { rows = rows }) (none_windowed 0 until g s f.rows (none_has g (Person s) f.rows none)))
  | inr one ↦ rw one.1 (ap (λ rows. record f { rows = rows }) (windowed_rows one.0.from until g s f.rows one.0 once one.1 refl))
]

once_done : (action : Action) (f : Lists) → AreRowsOnce f.rows → AreRowsOnce (done action f).rows
once_done (Removed rule g s) f once = rows_once_filter (λ (row : MemberRow). not (is_row g (Person s) row)) f.rows once
once_done (Ended rule g s until) f once =
    let same = ap (λ (x : Lists). x.rows) (done_is (Ended rule g s until) f once) in
    subst AreRowsOnce same (rows_once_windowed _ (Some until) g (Person s) f.rows once)

pub all_done_are : (actions : List Action) (f : Lists) → AreRowsOnce f.rows → all_happened (events_of actions f) f ≡ all_done actions f
all_done_are [] f once = refl
all_done_are (action ∷ actions) f once = ap (all_happened (events_of actions (done action f))) (done_is action f once) ∙ all_done_are actions (done action f) (once_done action f once)
