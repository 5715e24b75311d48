-- The facts at a date that is due: it is next, and from there on nothing has it.
use Rattle.std.proofs.Common.{◌≡◌, ◌<◌, ◌≤◌, ◌==◌, ◌&&◌, ◌||◌, ℕ, List, [], ◌∷◌, Bool, true, false, not, filter, map, Some, arith, refl, sym, inl, inr}
use Rattle.std.specs.List.{list_any, AllByRecursion}
use Rattle.std.proofs.lemmas.Bool.{cases_Bool, cases_order, or_parts, or_from}
use Rattle.reg_terms.specs.declared.rows.GrantRow.{GrantRow}
use Rattle.reg_terms.specs.declared.rows.MemberRow.{MemberRow}
use Rattle.reg_facts.specs.Lists.{Lists}
use Rattle.reg_current.specs.Dates.{begins_at, ends_at, is_dated, grant_begins_at, grant_ends_at, is_grant_dated, begun_at, at_date, due, IsNext}
use Rattle.reg_current.proofs.Due.{IsStill, due_some, no_row_dated, no_grant_dated, still_rows}

-- what is neither of two
none_of : {X : Type 0} (p q : X → Bool) (rows : List X) → list_any (λ row. p row || q row) rows ≡ false → (list_any p rows ≡ false) × (list_any q rows ≡ false)
none_of p q [] h = (refl, refl)
none_of p q (row ∷ rows) h =
    let parts = or_parts (p row || q row) (list_any (λ r. p r || q r) rows) h in
    let here = or_parts (p row) (q row) parts.0 in
    let rest = none_of p q rows parts.1 in
    (or_from (p row) (list_any p rows) here.0 rest.0, or_from (q row) (list_any q rows) here.1 rest.1)

of_none : {X : Type 0} (p q : X → Bool) (rows : List X) → list_any p rows ≡ false → list_any q rows ≡ false → list_any (λ row. p row || q row) rows ≡ false
of_none p q [] h k = refl
of_none p q (row ∷ rows) h k =
    let first = or_parts (p row) (list_any p rows) h in
    let second = or_parts (q row) (list_any q rows) k in
    or_from (p row || q row) (list_any (λ r. p r || q r) rows) (or_from (p row) (q row) first.0 second.0) (of_none p q rows first.1 second.1)

fewer : {X : Type 0} (test keep : X → Bool) (rows : List X) → list_any test rows ≡ false → list_any test (filter keep rows) ≡ false
fewer test keep [] h = refl
fewer test keep (row ∷ rows) h = let parts = or_parts (test row) (list_any test rows) h in elim (cases_Bool (keep row)) [
  | inl t ↦ rw (t, parts.0) (fewer test keep rows parts.1)
  | inr t ↦ rw t (fewer test keep rows parts.1)
]

none_left : {X : Type 0} (test : X → Bool) (rows : List X) → list_any test (filter (λ r. not (test r)) rows) ≡ false
none_left test [] = refl
none_left test (row ∷ rows) = elim (cases_Bool (test row)) [
  | inl t ↦ rw t (none_left test rows)
  | inr t ↦ rw (t, t) (none_left test rows)
]

-- ---- grants at a date

-- what no grant had before, none has after
grants_undated : (x d : ℕ) (rows : List GrantRow) → list_any (is_grant_dated x) rows ≡ false → list_any (is_grant_dated x) (map (begun_at d) (filter (λ (row : GrantRow). not (grant_ends_at d row)) rows)) ≡ false
grants_undated x d [] h = refl
grants_undated x d (row ∷ rows) h =
    let parts = or_parts (is_grant_dated x row) (list_any (is_grant_dated x) rows) h in
    let rest = grants_undated x d rows parts.1 in
    elim (cases_Bool (grant_ends_at d row)) [
      | inl y ↦ rw y rest
      | inr n ↦ rw n (or_from (is_grant_dated x (begun_at d row)) (list_any (is_grant_dated x) (map (begun_at d) (filter (λ (r : GrantRow). not (grant_ends_at d r)) rows))) (one parts.0) rest)
    ]
  where
    one : is_grant_dated x row ≡ false → is_grant_dated x (begun_at d row) ≡ false
    one k = elim (cases_Bool (grant_begins_at d row)) [
      | inl y ↦ rw y (or_parts (grant_begins_at x row) (grant_ends_at x row) k).1
      | inr n ↦ rw n k
    ]

-- and none has the date itself
grants_done : (d : ℕ) (rows : List GrantRow) → list_any (is_grant_dated d) (map (begun_at d) (filter (λ (row : GrantRow). not (grant_ends_at d row)) rows)) ≡ false
grants_done d [] = refl
grants_done d (row ∷ rows) =
    let rest = grants_done d rows in
    elim (cases_Bool (grant_ends_at d row)) [
      | inl y ↦ rw y rest
      | inr n ↦ rw n (or_from (is_grant_dated d (begun_at d row)) (list_any (is_grant_dated d) (map (begun_at d) (filter (λ (r : GrantRow). not (grant_ends_at d r)) rows))) (one n) rest)
    ]
  where
    one : grant_ends_at d row ≡ false → is_grant_dated d (begun_at d row) ≡ false
    one n = elim (cases_Bool (grant_begins_at d row)) [
      | inl y ↦ rw y n
      | inr m ↦ rw m (or_from (grant_begins_at d row) (grant_ends_at d row) m n)
    ]

-- ---- a date that is due is next, once what ends there is gone and what begins there is on

pub next_at : (a d : ℕ) (f : Lists) → due a d f ≡ Some d → IsNext a d (at_date d f)
next_at a d f first =
    let h = due_some a d d f first in
    let rows = λ (x : ℕ) (k : a < x) (l : x < d). none_of (begins_at x) (ends_at x) f.rows (no_row_dated f x (h.none_before x k l)) in
    record {
      later = h.later;
      none_begins = λ x k l. fewer (begins_at x) (λ (row : MemberRow). not (ends_at d row)) f.rows (rows x k l).0;
      none_ends = λ x k l. elim (cases_order x d) [
        | inl same ↦ rw same (none_left (ends_at d) f.rows)
        | inr (inl under) ↦ fewer (ends_at x) (λ (row : MemberRow). not (ends_at d row)) f.rows (rows x k under).1
        | inr (inr over) ↦ absurd (omega (arith, l, over))
      ];
      no_grant = λ x k l. elim (cases_order x d) [
        | inl same ↦ rw same (grants_done d f.grants)
        | inr (inl under) ↦ grants_undated x d f.grants (no_grant_dated f x (h.none_before x k under))
        | inr (inr over) ↦ absurd (omega (arith, l, over))
      ];
    }

-- up to a next date no row begins or ends
pub next_still : (a d : ℕ) (f : Lists) → IsNext a d f → AllByRecursion (IsStill a d) f.rows
next_still a d f next = still_rows a d f.rows (λ x k l. of_none (begins_at x) (ends_at x) f.rows (next.none_begins x k l) (next.none_ends x k (omega (arith, l))))
