-- What begins at a date at which nothing ends, and the steps of what ends.
use Rattle.std.proofs.Common.{◌≡◌, ◌<◌, ◌+◌, ◌==◌, ℕ, suc, List, [], ◌∷◌, Bool, true, false, not, filter, map, Option, Some, None, refl, sym, ap, subst, ◌∙◌, arith, inl, inr}
use Rattle.std.specs.List.{list_any, AllByRecursion}
use Rattle.std.specs.Prelude.{IfSome}
use Rattle.std.specs.List.Sorted.{IsPermutation}
use Rattle.std.proofs.lemmas.Bool.{cases_Bool, or_parts, eqb-true, false_from_ne_true}
use Rattle.reg_terms.specs.declared.event.Event.TheVariants.{RowRemoved}
use Rattle.reg_terms.specs.declared.kinds.Member.{Member}
use Rattle.reg_terms.specs.declared.rows.MemberRow.{MemberRow}
use Rattle.reg_facts.specs.Events.{happened, all_happened}
use Rattle.reg_facts.specs.Lists.{Lists}
use Rattle.reg_facts.specs.Sound.{IsSound}
use Rattle.reg_graph.specs.Edges.{IsAcyclic}
use Rattle.reg_effect.specs.declared.live.Live.{Live}
use Rattle.reg_effect.specs.declared.live.Change.TheVariants.{RowOff}
use Rattle.reg_effect.specs.Bound.{most_steps_of}
use Rattle.reg_effect.specs.Changes.{all_off, all_on, changed, changed_by, rows_where, SuitAll}
use Rattle.reg_effect.specs.Order.{has_live_row, row_cmp}
use Rattle.std.specs.BTreeSet.{insert_key}
use Rattle.reg_effect.specs.Standing.{standing}
use Rattle.reg_current.specs.Dates.{begins_at, ends_at, beginning, ending, at_date, date_changes, date_events, pair_gone, IsNext}
use Rattle.reg_current.specs.Invariant.{IsOpen, IsGrantOpen}
use Rattle.reg_current.specs.Live.{live}
use Rattle.reg_current.specs.Steps.{changes_of, event_steps, events_steps}
use Rattle.reg_current.proofs.ChangesJoined.{most_steps_append, suit_front}
use Rattle.reg_current.proofs.DateChanges.{date_lived, date_suits, where_none}
use Rattle.reg_current.proofs.DateEvents.{date_events_live, date_events_steps}
use Rattle.reg_current.proofs.Due.{still_grants}
use Rattle.reg_current.proofs.NextDate.{next_still}
use Rattle.reg_current.proofs.Opening.{open_left, open_grants_still}

-- what comes on at a date
pub record Begun (a d : ℕ) (f : Lists) : Type 0 where
  pub lived : live d f ≡ changed_by (all_on (beginning d f.rows)) (live a f)
  pub suit : SuitAll (all_on (beginning d f.rows)) (live a f)
  pub opens : AllByRecursion (IsOpen d) f.rows
  pub grants : AllByRecursion (IsGrantOpen d) f.grants

all_stay : (test : MemberRow → Bool) (rows : List MemberRow) → list_any test rows ≡ false → filter (λ (row : MemberRow). not (test row)) rows ≡ rows
all_stay test [] h = refl
all_stay test (row ∷ rows) h = let parts = or_parts (test row) (list_any test rows) h in rw parts.0 (ap (λ rs. row ∷ rs) (all_stay test rows parts.1))

pub begun : (a d : ℕ) (f : Lists) (graph : List (ℕ × ℕ)) → IsNext a d f → AllByRecursion (IsOpen a) f.rows → AllByRecursion (IsGrantOpen a) f.grants → IsSound f → IsPermutation graph (standing f.rows f.composites) → IsAcyclic graph → Begun a d f
begun a d f graph next opens grants sound same none =
    let still = next_still a d f next in
    let stay = next.none_ends d next.later (omega arith) in
    let gone : ending d f.rows ≡ [] = where_none (ends_at d) f.rows stay in
    let stays = all_stay (ends_at d) f.rows stay in
    record {
      lived = ap (λ (rs : List MemberRow). live d (record f { rows = rs })) (sym stays) ∙ (date_lived a d f next.later still opens sound ∙ rw gone refl);
      suit = rw gone at (date_suits a d f next.later still opens sound graph same none);
      opens = subst (λ (rs : List MemberRow). AllByRecursion (IsOpen d) rs) stays (open_left a d f.rows opens still);
      grants = open_grants_still a d f.grants grants (still_grants a (suc d) f.grants (λ x k l. next.no_grant x k (omega (arith, l))));
    }

-- ---- rows that end, one after another
no_steps : (L : Live) → most_steps_of [] L ≡ 0
unfolding most_steps_of
no_steps L = refl

off_changes : (t : ℕ) (p : ℕ × Member) (L : Live) → has_live_row p.0 p.1 L.rows ≡ true → changes_of t (pair_gone p) L ≡ RowOff p.0 p.1 ∷ []
unfolding changes_of
off_changes t p L on = rw on refl

steps_first : (p : ℕ × Member) (ps : List (ℕ × Member)) (L : Live) → most_steps_of (all_off (p ∷ ps)) L ≡ most_steps_of (RowOff p.0 p.1 ∷ []) L + most_steps_of (all_off ps) (changed (RowOff p.0 p.1) L)
unfolding most_steps_of
steps_first p ps L = let none = no_steps (changed (RowOff p.0 p.1) L) in omega (arith, none)

pub record Offs (t : ℕ) (ps : List (ℕ × Member)) (f : Lists) : Type 0 where
  pub steps : events_steps t (map pair_gone ps) f ≡ most_steps_of (all_off ps) (live t f)
  pub lived : live t (all_happened (map pair_gone ps) f) ≡ changed_by (all_off ps) (live t f)

-- each is on when its turn comes, and stands
pub offs : (t : ℕ) (ps : List (ℕ × Member)) (f : Lists) → ((g : ℕ) (m : Member) (x : Lists) → live t (happened (RowRemoved g m) x) ≡ changed_by (changes_of t (RowRemoved g m) (live t x)) (live t x)) → SuitAll (all_off ps) (live t f) → Offs t ps f
offs t [] f step suits = record { steps = sym (no_steps (live t f)); lived = refl }
offs t (p ∷ ps) f step suits =
    let L : Live = live t f in
    let one = off_changes t p L suits.0.fits in
    let next : live t (happened (pair_gone p) f) ≡ changed (RowOff p.0 p.1) L = step p.0 p.1 f ∙ ap (λ cs. changed_by cs L) one in
    let rest = offs t ps (happened (pair_gone p) f) step (rw next suits.1) in
    let here : event_steps t (pair_gone p) f ≡ most_steps_of (RowOff p.0 p.1 ∷ []) L = ap (λ cs. most_steps_of cs L) one in
    let there : most_steps_of (all_off ps) (live t (happened (pair_gone p) f)) ≡ most_steps_of (all_off ps) (changed (RowOff p.0 p.1) L) = ap (λ (N : Live). most_steps_of (all_off ps) N) next in
    let all = steps_first p ps L in
    record {
      steps = omega (arith, rest.steps, here, there, all);
      lived = rest.lived ∙ ap (λ (N : Live). changed_by (all_off ps) N) next;
    }

-- a row that begins at a date doesn't end at it
stays_there : (a d from : ℕ) (until : Option ℕ) → IfSome until (λ u. (a < u) × (from < u)) → (from == d) ≡ true → (elim until [ None ↦ false | Some u ↦ u == d ]) ≡ false
stays_there a d from None h e = refl
stays_there a d from (Some u) h e = false_from_ne_true (u == d) (λ t. let x = eqb-true u d t in let y = eqb-true from d e in omega (arith, x, y, h.1))

same_beginning : (a d : ℕ) (rows : List MemberRow) (found : List (ℕ × Member)) → AllByRecursion (IsOpen a) rows → rows_where (begins_at d) (filter (λ (row : MemberRow). not (ends_at d row)) rows) found ≡ rows_where (begins_at d) rows found
same_beginning a d [] found opens = refl
same_beginning a d (row ∷ rows) found opens = elim (cases_Bool (begins_at d row)) [
  | inl b ↦ rw (stays_there a d row.from row.until opens.0 b, b) (same_beginning a d rows (insert_key row_cmp found (row.group, row.member)) opens.1)
  | inr n ↦ elim (cases_Bool (ends_at d row)) [
    | inl e ↦ rw (e, n) (same_beginning a d rows found opens.1)
    | inr s ↦ rw (s, n) (same_beginning a d rows found opens.1)
  ]
]

-- the steps of a date: of the rows that end, and then of those that begin
pub date_cost : (t d : ℕ) (f : Lists) → AllByRecursion (IsOpen t) f.rows → all_happened (date_events d f) f ≡ at_date d f
    → ((g : ℕ) (m : Member) (x : Lists) → live t (happened (RowRemoved g m) x) ≡ changed_by (changes_of t (RowRemoved g m) (live t x)) (live t x)) → SuitAll (date_changes d f) (live t f)
    → events_steps t (date_events d f) f + most_steps_of (all_on (beginning d (at_date d f).rows)) (live t (at_date d f)) ≡ most_steps_of (date_changes d f) (live t f)
date_cost t d f opens leads step suits =
    let o = offs t (ending d f.rows) f step (suit_front (all_off (ending d f.rows)) (all_on (beginning d f.rows)) (live t f) suits) in
    let all = most_steps_append (all_off (ending d f.rows)) (all_on (beginning d f.rows)) (live t f) in
    let same : beginning d (at_date d f).rows ≡ beginning d f.rows = same_beginning t d f.rows [] opens in
    let on : live t (at_date d f) ≡ changed_by (all_off (ending d f.rows)) (live t f) = ap (λ (x : Lists). live t x) (sym leads) ∙ (date_events_live t d f ∙ o.lived) in
    let steps = o.steps in
    let events = date_events_steps t d f in
    rw (same, on) (omega (arith, all, steps, events))
