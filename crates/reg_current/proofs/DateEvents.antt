-- The events of a date: they can happen one after another, and make the date. Those of grants take no steps.
use Rattle.std.proofs.Common.{◌≡◌, ◌<◌, ◌+◌, ◌++◌, ◌==◌, ℕ, List, [], ◌∷◌, Bool, true, false, not, filter, map, Option, Some, None, refl, sym, ap, subst, ◌∙◌, arith, inl, inr}
use Rattle.std.specs.Prelude.{IfSome}
use Rattle.std.specs.List.{AllByRecursion, list_any}
use Rattle.std.proofs.lemmas.Bool.{cases_Bool, eqb-true, false_from_ne_true}
use Rattle.reg_terms.specs.declared.event.Event.{Event}
use Rattle.reg_terms.specs.declared.rows.GrantRow.{GrantRow}
use Rattle.reg_facts.specs.Events.{happened, all_happened}
use Rattle.reg_facts.specs.Lists.{Lists}
use Rattle.reg_facts.specs.Sound.{AreGrantsOnce, GrantStands, IsHeld, IsSound}
use Rattle.reg_effect.specs.declared.live.Live.{Live}
use Rattle.reg_effect.specs.Bound.{most_steps_of}
use Rattle.reg_effect.specs.Standing.{RowsOnce}
use Rattle.reg_current.specs.Dates.{GrantKey, grants_where, grant_begins_at, grant_ends_at, begun_at, ending, pair_gone, grant_gone, grant_on, end_of, date_events, without_ended, at_date}
use Rattle.reg_current.specs.Holding.{AllHold}
use Rattle.reg_current.specs.Invariant.{IsGrantOpen}
use Rattle.reg_current.specs.Live.{live}
use Rattle.reg_current.specs.Steps.{changes_of, event_steps, events_steps}
use Rattle.reg_current.proofs.GrantsInTurn.{CanBegin, EndsSo, began_hold, each_listed, ends_so, is_of, is_self, key_of, kept_stand, listed, on_if, where_all, where_began, where_hold, where_removed}
use Rattle.reg_current.proofs.RowsGone.{ending_hold, ending_removed, rows_ended}

-- ---- events one after another

happened_append : (es ds : List Event) (f : Lists) → all_happened (es ++ ds) f ≡ all_happened ds (all_happened es f)
happened_append [] ds f = refl
happened_append (e ∷ es) ds f = happened_append es ds (happened e f)

hold_append : (at : ℕ) (es ds : List Event) (f g : Lists) → all_happened es f ≡ g → AllHold at es f → AllHold at ds g → AllHold at (es ++ ds) f
hold_append at [] ds f g is h k = subst (λ (x : Lists). AllHold at ds x) (sym is) k
hold_append at (e ∷ es) ds f g is h k = (h.0, hold_append at es ds (happened e f) g is h.1 k)

steps_append : (at : ℕ) (es ds : List Event) (f : Lists) → events_steps at (es ++ ds) f ≡ events_steps at es f + events_steps at ds (all_happened es f)
steps_append at [] ds f = omega arith
steps_append at (e ∷ es) ds f = let rest = steps_append at es ds (happened e f) in omega (arith, rest)

-- ---- what they make

abbrev gone : ℕ → Lists → List Event
gone d f = map grant_gone (grants_where (grant_ends_at d) f.grants [])

abbrev on : ℕ → Lists → List Event
on d f = map (grant_on f.grants) (grants_where (grant_begins_at d) f.grants [])

grants_ended : (d : ℕ) (f : Lists) → AreGrantsOnce f.grants → all_happened (gone d f) (rows_ended d f) ≡ without_ended d f
grants_ended d f once = where_removed (grant_ends_at d) f.grants (rows_ended d f) refl once

-- of those that a test keeps the same holds
all_kept : (P : GrantRow → Type 0) (keep : GrantRow → Bool) (rows : List GrantRow) → AllByRecursion P rows → AllByRecursion P (filter keep rows)
all_kept P keep [] a = tt
all_kept P keep (row ∷ rows) a = elim (cases_Bool (keep row)) [
  | inl t ↦ rw t (a.0, all_kept P keep rows a.1)
  | inr t ↦ rw t (all_kept P keep rows a.1)
]

grants_began : (d : ℕ) (f : Lists) → AreGrantsOnce f.grants → all_happened (on d f) (without_ended d f) ≡ at_date d f
grants_began d f once =
    where_began f.grants (grants_where (grant_begins_at d) f.grants []) (begun_at d) (without_ended d f)
    (all_kept (EndsSo f.grants) (λ (row : GrantRow). not (grant_ends_at d row)) f.grants (ends_so f.grants once))
    (all_kept (λ (row : GrantRow). on_if (listed row (grants_where (grant_begins_at d) f.grants [])) row ≡ begun_at d row) (λ (row : GrantRow). not (grant_ends_at d row)) f.grants (each f.grants (each_listed (grant_begins_at d) f.grants once)))
  where
    each : (rs : List GrantRow) → AllByRecursion (λ (row : GrantRow). listed row (grants_where (grant_begins_at d) f.grants []) ≡ grant_begins_at d row) rs → AllByRecursion (λ (row : GrantRow). on_if (listed row (grants_where (grant_begins_at d) f.grants [])) row ≡ begun_at d row) rs
    each [] a = tt
    each (r ∷ rs) a = (ap (λ b. on_if b r) a.0, each rs a.1)

-- the events of a date make it
pub date_made : (d : ℕ) (f : Lists) → RowsOnce f.rows → AreGrantsOnce f.grants → all_happened (date_events d f) f ≡ at_date d f
date_made d f rows once =
    happened_append (map pair_gone (ending d f.rows)) (gone d f ++ on d f) f
    ∙ (ap (all_happened (gone d f ++ on d f)) (ending_removed d f rows)
    ∙ (happened_append (gone d f) (on d f) (rows_ended d f)
    ∙ (ap (all_happened (on d f)) (grants_ended d f once) ∙ grants_began d f once)))

-- ---- they can happen

-- a grant that begins at a date ends later, if it ends
stays : (d : ℕ) (from until : Option ℕ) → IfSome from (λ x. IfSome until (λ u. x < u)) → elim from [ None ↦ false | Some u ↦ u == d ] ≡ true → elim until [ None ↦ false | Some u ↦ u == d ] ≡ false
stays d None until h b = cc
stays d (Some x) None h b = refl
stays d (Some x) (Some u) h b = false_from_ne_true (u == d) (λ t. let e = eqb-true u d t in let s = eqb-true x d b in omega (arith, e, s, h))

can_begin : (at d : ℕ) (f : Lists) (rows : List GrantRow) → AllByRecursion (λ (row : GrantRow). GrantStands f.made f.subjects f.groups row) rows → AllByRecursion (IsGrantOpen at) rows → AllByRecursion (EndsSo f.grants) rows
    → AllByRecursion (λ (row : GrantRow). not (grant_ends_at d row) ≡ true → list_any (is_of (key_of row)) (without_ended d f).grants ≡ true) rows
    → AllByRecursion (λ (row : GrantRow). grant_begins_at d row ≡ true → CanBegin at f.grants (without_ended d f) (key_of row)) rows
can_begin at d f [] stand opens ends kept = tt
can_begin at d f (row ∷ rows) stand opens ends kept = (
  λ begins. record {
    stands = record { object = stand.0.object; holder = stand.0.holder };
    there = kept.0 (ap not (stays d row.from row.until opens.0.after begins));
    later = subst (λ (o : Option ℕ). IfSome o (λ u. at < u)) (sym (ends.0 (key_of row) (is_self row))) opens.0.ends;
  },
  can_begin at d f rows stand.1 opens.1 ends.1 kept.1,
)

pub date_holds : (at d : ℕ) (f : Lists) → RowsOnce f.rows → IsHeld f → AllByRecursion (IsGrantOpen at) f.grants → AllHold at (date_events d f) f
date_holds at d f rows held opens =
    hold_append at (map pair_gone (ending d f.rows)) (gone d f ++ on d f) f (rows_ended d f) (ending_removed d f rows) (ending_hold at d f)
    (hold_append at (gone d f) (on d f) (rows_ended d f) (without_ended d f) (grants_ended d f held.grants_once) (where_hold at (grant_ends_at d) f.grants (rows_ended d f) refl held.grants_once)
    (began_hold at f.grants (grants_where (grant_begins_at d) f.grants []) (without_ended d f)
    (where_all (CanBegin at f.grants (without_ended d f)) (grant_begins_at d) f.grants []
    (can_begin at d f f.grants held.grants_stand opens (ends_so f.grants held.grants_once) (kept_stand (λ (row : GrantRow). not (grant_ends_at d row)) f.grants)) tt)))

-- ---- those of grants take no steps, and leave the live data as they are

free : (L : Live) → most_steps_of [] L ≡ 0
unfolding most_steps_of
free L = refl

gone_free : (at : ℕ) (ks : List GrantKey) (f : Lists) → events_steps at (map grant_gone ks) f ≡ 0
unfolding changes_of
gone_free at [] f = refl
gone_free at (k ∷ ks) f = let none = free (live at f) in let rest = gone_free at ks (happened (grant_gone k) f) in omega (arith, none, rest)

on_free : (at : ℕ) (all : List GrantRow) (ks : List GrantKey) (f : Lists) → events_steps at (map (grant_on all) ks) f ≡ 0
unfolding changes_of
on_free at all [] f = refl
on_free at all (k ∷ ks) f = let none = free (live at f) in let rest = on_free at all ks (happened (grant_on all k) f) in omega (arith, none, rest)

pub date_events_steps : (at d : ℕ) (f : Lists) → events_steps at (date_events d f) f ≡ events_steps at (map pair_gone (ending d f.rows)) f
date_events_steps at d f =
    let rows = all_happened (map pair_gone (ending d f.rows)) f in
    let first = steps_append at (map pair_gone (ending d f.rows)) (gone d f ++ on d f) f in
    let second = steps_append at (gone d f) (on d f) rows in
    let none = gone_free at (grants_where (grant_ends_at d) f.grants []) rows in
    let nor = on_free at f.grants (grants_where (grant_begins_at d) f.grants []) (all_happened (gone d f) rows) in
    omega (arith, first, second, none, nor)

gone_live : (at : ℕ) (ks : List GrantKey) (f : Lists) → live at (all_happened (map grant_gone ks) f) ≡ live at f
gone_live at [] f = refl
gone_live at (k ∷ ks) f = gone_live at ks (happened (grant_gone k) f)

on_live : (at : ℕ) (all : List GrantRow) (ks : List GrantKey) (f : Lists) → live at (all_happened (map (grant_on all) ks) f) ≡ live at f
on_live at all [] f = refl
on_live at all (k ∷ ks) f = on_live at all ks (happened (grant_on all k) f)

pub date_events_live : (at d : ℕ) (f : Lists) → live at (all_happened (date_events d f) f) ≡ live at (all_happened (map pair_gone (ending d f.rows)) f)
date_events_live at d f =
    let rows = all_happened (map pair_gone (ending d f.rows)) f in
    ap (live at) (happened_append (map pair_gone (ending d f.rows)) (gone d f ++ on d f) f ∙ happened_append (gone d f) (on d f) rows)
    ∙ (on_live at f.grants (grants_where (grant_begins_at d) f.grants []) (all_happened (gone d f) rows) ∙ gone_live at (grants_where (grant_ends_at d) f.grants []) rows)
