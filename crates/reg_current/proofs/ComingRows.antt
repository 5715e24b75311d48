-- The dates to come are found with a row more, a row less, or a row that has other dates.
use Rattle.std.proofs.Common.{◌≡◌, ◌≤◌, ◌<◌, ◌==◌, ◌&&◌, ◌||◌, ◌++◌, ℕ, List, [], ◌∷◌, Bool, true, false, not, map, filter, Option, Some, arith, refl, sym, ◌∙◌, ap, inl, inr, nat_lt}
use Rattle.std.specs.List.{list_any, find}
use Rattle.std.specs.Ordering.{is_lt, nat_cmp}
use Rattle.std.proofs.lemmas.Bool.{cases_Bool, eqb-true, lt-ltb, le-ltb, or_parts, or_from, and_parts, and_right}
use Rattle.std.proofs.lemmas.Bool.Decides.{nat_tests}
use Rattle.std.proofs.lemmas.List.Folds.{list_any-append}
use Rattle.reg_terms.specs.declared.kinds.Member.{Member}
use Rattle.reg_terms.specs.declared.rows.GrantRow.{GrantRow}
use Rattle.reg_terms.specs.declared.rows.MemberRow.{MemberRow}
use Rattle.reg_facts.specs.Edits.{windowed}
use Rattle.reg_terms.specs.Rows.{is_row, has_row}
use Rattle.reg_facts.specs.Sound.{AreRowsOnce}
use Rattle.reg_effect.proofs.Edits.{row_is}
use Rattle.reg_current.specs.declared.dated_rows.DatedRows.{DatedRows}
use Rattle.reg_current.specs.declared.dates.Dates.{Dates}
use Rattle.reg_current.specs.Dates.{begins_at, ends_at}
use Rattle.reg_current.specs.Coming.{has_dated, same_dated, FindsAfter, AreFound, LosesRows, LosesDates}

-- ---- a row at a date that lies later than the clock
pub before : (a b : ℕ) (r : Bool) → r ≡ is_lt (nat_cmp a b) → r ≡ true → a < b
before a b r e t = let h : is_lt (nat_cmp a b) ≡ true = sym e ∙ t in grind (arith, nat_tests)

pub not_before : (a b : ℕ) (r : Bool) → r ≡ is_lt (nat_cmp a b) → r ≡ false → b ≤ a
not_before a b r e t = let h : is_lt (nat_cmp a b) ≡ false = sym e ∙ t in grind (arith, nat_tests)

pub later_in : (clock date group : ℕ) (member : Member) (old new : DatedRows) → clock < date → ((d g : ℕ) (m : Member) → has_dated new d g m ≡ (same_dated date group member d g m || has_dated old d g m)) → (d g : ℕ) (m : Member) → has_dated new d g m ≡ ((nat_lt clock d && same_dated date group member d g m) || has_dated old d g m)
later_in clock date group member old new up put d g m = put d g m ∙ elim (cases_Bool (date == d)) [
  | inl t ↦ let e = eqb-true date d t in rw (lt-ltb clock d (omega (arith, e, up))) refl
  | inr f ↦ rw f (none (nat_lt clock d) (has_dated old d g m))
]
  where
    none : (b h : Bool) → h ≡ ((b && false) || h)
    none true h = refl
    none false h = refl

pub later_out : (clock date group : ℕ) (member : Member) (old : DatedRows) → date ≤ clock → (d g : ℕ) (m : Member) → has_dated old d g m ≡ ((nat_lt clock d && same_dated date group member d g m) || has_dated old d g m)
later_out clock date group member old low d g m = elim (cases_Bool (date == d)) [
  | inl t ↦ let e = eqb-true date d t in rw (le-ltb clock d (omega (arith, e, low))) refl
  | inr f ↦ rw f (none (nat_lt clock d) (has_dated old d g m))
]
  where
    none : (b h : Bool) → h ≡ ((b && false) || h)
    none true h = refl
    none false h = refl

-- ---- rows less
-- of what a test of one row's name finds
abbrev named : (MemberRow → Bool) → ℕ → Member → MemberRow → Bool
named test g m row = test row && is_row g m row

same_name : (g x : ℕ) (m n : Member) (row : MemberRow) → is_row g m row ≡ true → is_row x n row ≡ true → (x ≡ g) × (n ≡ m)
same_name g x m n row a b =
    let one = row_is g m row.group row.member a in
    let two = row_is x n row.group row.member b in
    (sym two.0 ∙ one.0, sym two.1 ∙ one.1)

none_named : (test : MemberRow → Bool) (g : ℕ) (m : Member) (rows : List MemberRow) → has_row g m rows ≡ false → list_any (named test g m) rows ≡ false
none_named test g m [] h = refl
none_named test g m (row ∷ rows) h =
    let parts = or_parts (is_row g m row) (has_row g m rows) h in
    or_from (named test g m row) (list_any (named test g m) rows) (and_right (test row) (is_row g m row) parts.0) (none_named test g m rows parts.1)

none_gone : (g : ℕ) (m : Member) (rows : List MemberRow) → has_row g m rows ≡ false → filter (λ (row : MemberRow). not (is_row g m row)) rows ≡ rows
none_gone g m [] h = refl
none_gone g m (row ∷ rows) h =
    let parts = or_parts (is_row g m row) (has_row g m rows) h in
    rw (parts.0, none_gone g m rows parts.1) refl

found_row : (g : ℕ) (m : Member) (row : MemberRow) (rows : List MemberRow) → find (is_row g m) rows ≡ Some row → is_row g m row ≡ true
found_row g m row [] h = absurd (let clash : ⊥ = cc in clash)
found_row g m row (r ∷ rows) h = elim (cases_Bool (is_row g m r)) [
  | inl t ↦
      let head : Some r ≡ Some row = rw t at h in
      let same : r ≡ row = cc in
      rw (← same) t
  | inr f ↦ found_row g m row rows (rw f at h)
]

-- what a test of a name finds without the one row of a name
one_less : (test : MemberRow → Bool) (g x : ℕ) (m n : Member) (row : MemberRow) (rows : List MemberRow) → AreRowsOnce rows → find (is_row g m) rows ≡ Some row → (not (list_any (named test x n) (row ∷ [])) && list_any (named test x n) rows) ≡ list_any (named test x n) (filter (λ (r : MemberRow). not (is_row g m r)) rows)
one_less test g x m n row [] once h = absurd (let clash : ⊥ = cc in clash)
one_less test g x m n row (r ∷ rows) once h = elim (cases_Bool (is_row g m r)) [
  | inl t ↦
      let head : Some r ≡ Some row = rw t at h in
      let same : r ≡ row = cc in
      let name = row_is g m r.group r.member t in
      let none : has_row g m rows ≡ false = rw (name.0, name.1) at once.0 in
      rw (t, none_gone g m rows none, ← same) (first (named test x n r) (list_any (named test x n) rows) (λ y. let w = same_name g x m n r t (and_parts (test r) (is_row x n r) y).1 in rw (w.0, w.1) (none_named test g m rows none)))
  | inr f ↦
      let rest = one_less test g x m n row rows once.1 (rw f at h) in
      rw f (later (named test x n row) (named test x n r) (list_any (named test x n) rows) (list_any (named test x n) (filter (λ (r : MemberRow). not (is_row g m r)) rows))
      (λ y. let w = same_name g x m n row (found_row g m row rows (rw f at h)) (and_parts (test row) (is_row x n row) y).1 in rw (w.0, w.1) (and_right (test r) (is_row g m r) f)) rest)
]
  where
    first : (a b : Bool) → (a ≡ true → b ≡ false) → (not (a || false) && (a || b)) ≡ b
    first true b h = sym (h refl)
    first false b h = refl

    later : (a b c d : Bool) → (a ≡ true → b ≡ false) → (not (a || false) && c) ≡ d → (not (a || false) && (b || c)) ≡ (b || d)
    later true b c d h e = rw (h refl) e
    later false b c d h e = ap (λ k. b || k) e

lost_after : (old new : DatedRows) (test : ℕ → MemberRow → Bool) (clock : ℕ) (gone rows left : List MemberRow) → FindsAfter old test clock rows → LosesRows old new test gone
    → ((d g : ℕ) (m : Member) → (not (list_any (named (test d) g m) gone) && list_any (named (test d) g m) rows) ≡ list_any (named (test d) g m) left)
    → FindsAfter new test clock left
lost_after old new test clock gone rows left finds lost same d g m =
    lost d g m ∙ (ap (λ b. not (list_any (named (test d) g m) gone) && b) (finds d g m)
    ∙ (turned (list_any (named (test d) g m) gone) (nat_lt clock d) (list_any (named (test d) g m) rows)
    ∙ ap (λ b. nat_lt clock d && b) (same d g m)))
  where
    turned : (a b c : Bool) → (not a && (b && c)) ≡ (b && (not a && c))
    turned true true c = refl
    turned true false c = refl
    turned false b c = refl

-- the dates of a row that goes
pub row_lost : (old new : Dates) (row : MemberRow) → LosesDates old new (row ∷ []) → (clock g : ℕ) (m : Member) (rows : List MemberRow) (grants : List GrantRow) → AreFound old clock rows grants → AreRowsOnce rows → find (is_row g m) rows ≡ Some row → AreFound new clock (filter (λ (r : MemberRow). not (is_row g m r)) rows) grants
row_lost old new row lost clock g m rows grants finds once is =
    let left : List MemberRow = filter (λ (r : MemberRow). not (is_row g m r)) rows in
    record {
      begins = lost_after old.begins new.begins begins_at clock (row ∷ []) rows left finds.begins lost.begins (λ d x n. one_less (begins_at d) g x m n row rows once is);
      ends = lost_after old.ends new.ends ends_at clock (row ∷ []) rows left finds.ends lost.ends (λ d x n. one_less (ends_at d) g x m n row rows once is);
      grant_begins = rw lost.grant_begins finds.grant_begins;
      grant_ends = rw lost.grant_ends finds.grant_ends;
    }

-- ---- a row that has other dates
windowed_any : (test : MemberRow → Bool) (from : ℕ) (until : Option ℕ) (g : ℕ) (m : Member) (rows : List MemberRow) → list_any test (map (windowed from until g m) rows) ≡ (list_any test (filter (λ (row : MemberRow). not (is_row g m row)) rows) || (has_row g m rows && test (record { group = g; member = m; from = from; until = until })))
windowed_any test from until g m [] = refl
windowed_any test from until g m (row ∷ rows) =
    let other : MemberRow = record { group = g; member = m; from = from; until = until } in
    let left : List MemberRow = filter (λ (row : MemberRow). not (is_row g m row)) rows in
    let rest = windowed_any test from until g m rows in
    elim (cases_Bool (is_row g m row)) [
      | inl t ↦
          let name = row_is g m row.group row.member t in
          let same : record row { from = from; until = until } ≡ other = rw (name.0, name.1) refl in
          rw (t, same, rest) (once (test other) (list_any test left) (has_row g m rows))
      | inr f ↦ rw (f, rest) (grouped (test row) (list_any test left) (has_row g m rows && test other))
    ]
  where
    once : (a b c : Bool) → (a || (b || (c && a))) ≡ (b || (true && a))
    once true true c = refl
    once true false c = refl
    once false true c = refl
    once false false true = refl
    once false false false = refl

    grouped : (a b c : Bool) → (a || (b || c)) ≡ ((a || b) || c)
    grouped true b c = refl
    grouped false b c = refl

windowed_after : (set : DatedRows) (test : ℕ → MemberRow → Bool) (clock from : ℕ) (until : Option ℕ) (g : ℕ) (m : Member) (rows : List MemberRow) → has_row g m rows ≡ true → FindsAfter set test clock (filter (λ (row : MemberRow). not (is_row g m row)) rows ++ (record { group = g; member = m; from = from; until = until }) ∷ []) → FindsAfter set test clock (map (windowed from until g m) rows)
windowed_after set test clock from until g m rows has finds d x n =
    let other : MemberRow = record { group = g; member = m; from = from; until = until } in
    let left : List MemberRow = filter (λ (row : MemberRow). not (is_row g m row)) rows in
    finds d x n ∙ ap (λ b. nat_lt clock d && b) (list_any-append (named (test d) x n) left (other ∷ []) ∙ sym (windowed_any (named (test d) x n) from until g m rows ∙ rw has (last (list_any (named (test d) x n) left) (named (test d) x n other))))
  where
    last : (a b : Bool) → (a || (true && b)) ≡ (a || (b || false))
    last true b = refl
    last false true = refl
    last false false = refl

-- a row with other dates is the row less, and then one more
pub windowed_finds : (dates : Dates) (clock from : ℕ) (until : Option ℕ) (g : ℕ) (m : Member) (rows : List MemberRow) (grants : List GrantRow) → has_row g m rows ≡ true → AreFound dates clock (filter (λ (row : MemberRow). not (is_row g m row)) rows ++ (record { group = g; member = m; from = from; until = until }) ∷ []) grants → AreFound dates clock (map (windowed from until g m) rows) grants
windowed_finds dates clock from until g m rows grants has finds = record {
  begins = windowed_after dates.begins begins_at clock from until g m rows has finds.begins;
  ends = windowed_after dates.ends ends_at clock from until g m rows has finds.ends;
  grant_begins = finds.grant_begins;
  grant_ends = finds.grant_ends;
}
