-- The dates to come are found with a grant more, a grant less, a grant that is put in the place of the same, and without the grants on an object.
use Rattle.std.proofs.Common.{◌≡◌, ◌≤◌, ◌<◌, ◌==◌, ◌&&◌, ◌||◌, ◌++◌, ℕ, List, [], ◌∷◌, Bool, true, false, not, map, filter, Option, Some, None, arith, refl, sym, ◌∙◌, ap, subst, inl, inr, nat_lt, append_assoc, append-nil}
use Rattle.std.specs.List.{list_any, find}
use Rattle.std.proofs.lemmas.Bool.{cases_Bool, eqb-true, lt-ltb, le-ltb, or_parts, or_from, and_parts, both_ways, false_from_ne_true}
use Rattle.std.proofs.lemmas.List.Folds.{list_any-append}
use Rattle.std.proofs.lemmas.Map.Views.{any-filter_same}
use Rattle.reg_terms.specs.declared.kinds.Object.{Object}
use Rattle.reg_terms.specs.declared.rows.GrantRow.{GrantRow}
use Rattle.reg_terms.specs.declared.rows.MemberRow.{MemberRow}
use Rattle.reg_terms.specs.Kinds.{same_object}
use Rattle.reg_facts.specs.Grants.{same_grant, has_grant, replaced, grants_on}
use Rattle.reg_facts.specs.Sound.{AreGrantsOnce}
use Rattle.reg_current.specs.declared.dated_grants.DatedGrants.{DatedGrants}
use Rattle.reg_current.specs.declared.dates.Dates.{Dates}
use Rattle.reg_current.specs.Dates.{grant_begins_at, grant_ends_at, GrantKey}
use Rattle.reg_current.specs.Coming.{has_dated_grant, same_dated_grant, same_key, key_of, is_grant, is_date, AreFound, FindsGrants, LosesGrants, LosesGrantDates}
use Rattle.reg_current.proofs.KeyOrder.{one_key, key_self}

-- of what a test of one grant's key finds
abbrev pub keyed : (GrantRow → Bool) → GrantKey → GrantRow → Bool
keyed test k row = test row && is_grant k row

-- ---- a grant at a date that lies later than the clock
pub grant_in : (clock date : ℕ) (key : GrantKey) (old new : DatedGrants) → clock < date → ((d : ℕ) (k : GrantKey) → has_dated_grant new d k ≡ (same_dated_grant date key d k || has_dated_grant old d k)) → (d : ℕ) (k : GrantKey) → has_dated_grant new d k ≡ ((nat_lt clock d && same_dated_grant date key d k) || has_dated_grant old d k)
grant_in clock date key old new up put d k = put d k ∙ elim (cases_Bool (date == d)) [
  | inl t ↦ let e = eqb-true date d t in rw (lt-ltb clock d (omega (arith, e, up))) refl
  | inr f ↦ rw f (none (nat_lt clock d) (has_dated_grant old d k))
]
  where
    none : (b h : Bool) → h ≡ ((b && false) || h)
    none true h = refl
    none false h = refl

pub grant_out : (clock date : ℕ) (key : GrantKey) (old : DatedGrants) → date ≤ clock → (d : ℕ) (k : GrantKey) → has_dated_grant old d k ≡ ((nat_lt clock d && same_dated_grant date key d k) || has_dated_grant old d k)
grant_out clock date key old low d k = elim (cases_Bool (date == d)) [
  | inl t ↦ let e = eqb-true date d t in rw (le-ltb clock d (omega (arith, e, low))) refl
  | inr f ↦ rw f (none (nat_lt clock d) (has_dated_grant old d k))
]
  where
    none : (b h : Bool) → h ≡ ((b && false) || h)
    none true h = refl
    none false h = refl

-- ---- grants less
-- a grant that a test of a key finds has the key
of_key : (test : GrantRow → Bool) (k : GrantKey) (row : GrantRow) → keyed test k row ≡ true → key_of row ≡ k
of_key test k row h = one_key (key_of row) k (and_parts (test row) (is_grant k row) h).1

lost : (b l x : Bool) → (not (b && x) && (l && x)) ≡ (l && (not b && x))
lost true true true = refl
lost true true false = refl
lost true false true = refl
lost true false false = refl
lost false true true = refl
lost false true false = refl
lost false false true = refl
lost false false false = refl

-- without the grants on an object
pub object_after : (old new : DatedGrants) (test : ℕ → GrantRow → Bool) (clock : ℕ) (o : Object) (grants : List GrantRow) → FindsGrants old test clock grants → LosesGrants old new test (grants_on o grants) → FindsGrants new test clock (filter (λ (row : GrantRow). not (same_object row.object o)) grants)
object_after old new test clock o grants finds gone d k =
    gone d k
    ∙ rw (finds d k, any-filter_same (keyed (test d) k) (λ (row : GrantRow). same_object row.object o) (same_object k.0 o) (λ r t. ap (λ (l : GrantKey). same_object l.0 o) (of_key (test d) k r t)) grants, any-filter_same (keyed (test d) k) (λ (row : GrantRow). not (same_object row.object o)) (not (same_object k.0 o)) (λ r t. ap (λ (l : GrantKey). not (same_object l.0 o)) (of_key (test d) k r t)) grants)
    (lost (same_object k.0 o) (nat_lt clock d) (list_any (keyed (test d) k) grants))

-- of what one test finds, another finds none
none_where : (test other : GrantRow → Bool) (rows : List GrantRow) → ((r : GrantRow) → test r ≡ true → other r ≡ true) → list_any other rows ≡ false → list_any test rows ≡ false
none_where test other [] told h = refl
none_where test other (r ∷ rows) told h =
    let parts = or_parts (other r) (list_any other rows) h in
    or_from (test r) (list_any test rows) (false_from_ne_true (test r) (λ t. both_ways (other r) parts.0 (told r t))) (none_where test other rows told parts.1)

-- two grants that are the same as one are the same
alike : (row r s : GrantRow) → same_grant row r ≡ true → same_grant row s ≡ true → same_grant r s ≡ true
alike row r s a b =
    let one = one_key (key_of r) (key_of row) a in
    let two = one_key (key_of s) (key_of row) b in
    ap (λ (l : GrantKey). same_key (key_of s) l) (one ∙ sym two) ∙ key_self (key_of s)

-- what a test finds of the grant that is found is what it finds of all
only_one : (row stands : GrantRow) (test : GrantRow → Bool) (rows : List GrantRow) → ((r : GrantRow) → test r ≡ true → same_grant row r ≡ true) → find (same_grant row) rows ≡ Some stands → AreGrantsOnce rows → list_any test rows ≡ test stands
only_one row stands test [] told h once = absurd (let clash : ⊥ = cc in clash)
only_one row stands test (r ∷ rows) told h once = elim (cases_Bool (same_grant row r)) [
  | inl t ↦
      let head : Some r ≡ Some stands = rw t at h in
      let same : r ≡ stands = cc in
      rw (none_where test (same_grant r) rows (λ s y. alike row r s t (told s y)) once.0, ← same) (alone (test r))
  | inr f ↦
      let rest = only_one row stands test rows told (rw f at h) once.1 in
      rw (false_from_ne_true (test r) (λ y. both_ways (same_grant row r) f (told r y)), rest) refl
]
  where
    alone : (b : Bool) → (b || false) ≡ b
    alone true = refl
    alone false = refl

found_same : (row stands : GrantRow) (rows : List GrantRow) → find (same_grant row) rows ≡ Some stands → same_grant row stands ≡ true
found_same row stands [] h = absurd (let clash : ⊥ = cc in clash)
found_same row stands (r ∷ rows) h = elim (cases_Bool (same_grant row r)) [
  | inl t ↦
      let head : Some r ≡ Some stands = rw t at h in
      let same : r ≡ stands = cc in
      rw (← same) t
  | inr f ↦ found_same row stands rows (rw f at h)
]

-- what the found grant shares with all
shared : (test : GrantRow → Bool) (k : GrantKey) (row stands : GrantRow) (rows : List GrantRow) → find (same_grant row) rows ≡ Some stands → AreGrantsOnce rows → keyed test k stands ≡ (same_key k (key_of row) && list_any (keyed test k) rows)
shared test k row stands rows h once = elim (cases_Bool (same_key k (key_of row))) [
  | inl t ↦ rw t (sym (only_one row stands (keyed test k) rows (λ r y. ap (λ (l : GrantKey). same_key l (key_of row)) (of_key test k r y) ∙ t) h once))
  | inr f ↦ rw f (false_from_ne_true (keyed test k stands) (λ y. both_ways (same_key k (key_of row)) f (ap (λ (l : GrantKey). same_key l (key_of row)) (sym (of_key test k stands y)) ∙ found_same row stands rows h)))
]

grant_after : (old new : DatedGrants) (test : ℕ → GrantRow → Bool) (clock : ℕ) (row stands : GrantRow) (grants : List GrantRow) → FindsGrants old test clock grants → LosesGrants old new test (stands ∷ []) → find (same_grant row) grants ≡ Some stands → AreGrantsOnce grants → FindsGrants new test clock (filter (λ (other : GrantRow). not (same_grant row other)) grants)
grant_after old new test clock row stands grants finds gone is once d k =
    gone d k
    ∙ rw (finds d k, shared (test d) k row stands grants is once, any-filter_same (keyed (test d) k) (λ (other : GrantRow). not (same_grant row other)) (not (same_key k (key_of row))) (λ r t. ap (λ (l : GrantKey). not (same_key l (key_of row))) (of_key (test d) k r t)) grants)
    (ap (λ b. not b && (nat_lt clock d && list_any (keyed (test d) k) grants)) (alone (same_key k (key_of row) && list_any (keyed (test d) k) grants)) ∙ lost (same_key k (key_of row)) (nat_lt clock d) (list_any (keyed (test d) k) grants))
  where
    alone : (b : Bool) → (b || false) ≡ b
    alone true = refl
    alone false = refl

-- a grant that goes
pub grant_lost : (old new : Dates) (row stands : GrantRow) → LosesGrantDates old new (stands ∷ []) → (clock : ℕ) (rows : List MemberRow) (grants : List GrantRow) → AreFound old clock rows grants → AreGrantsOnce grants → find (same_grant row) grants ≡ Some stands → AreFound new clock rows (filter (λ (other : GrantRow). not (same_grant row other)) grants)
grant_lost old new row stands gone clock rows grants finds once is = record {
  begins = rw gone.begins finds.begins;
  ends = rw gone.ends finds.ends;
  grant_begins = grant_after old.grant_begins new.grant_begins grant_begins_at clock row stands grants finds.grant_begins gone.grant_begins is once;
  grant_ends = grant_after old.grant_ends new.grant_ends grant_ends_at clock row stands grants finds.grant_ends gone.grant_ends is once;
}

-- an object that goes, with all grants on it
pub object_lost : (old new : Dates) (o : Object) (clock : ℕ) (rows : List MemberRow) (grants : List GrantRow) → AreFound old clock rows grants → LosesGrantDates old new (grants_on o grants) → AreFound new clock rows (filter (λ (row : GrantRow). not (same_object row.object o)) grants)
object_lost old new o clock rows grants finds gone = record {
  begins = rw gone.begins finds.begins;
  ends = rw gone.ends finds.ends;
  grant_begins = object_after old.grant_begins new.grant_begins grant_begins_at clock o grants finds.grant_begins gone.grant_begins;
  grant_ends = object_after old.grant_ends new.grant_ends grant_ends_at clock o grants finds.grant_ends gone.grant_ends;
}

-- ---- a grant in the place of the same
replaced_any : (test : GrantRow → Bool) (row : GrantRow) (rows : List GrantRow) → list_any test (map (replaced row) rows) ≡ (list_any test (filter (λ (other : GrantRow). not (same_grant row other)) rows) || (has_grant row rows && test row))
replaced_any test row [] = refl
replaced_any test row (r ∷ rows) =
    let left : List GrantRow = filter (λ (other : GrantRow). not (same_grant row other)) rows in
    let rest = replaced_any test row rows in
    elim (cases_Bool (same_grant row r)) [
      | inl t ↦ rw (t, rest) (once (test row) (list_any test left) (has_grant row rows))
      | inr f ↦ rw (f, rest) (grouped (test r) (list_any test left) (has_grant row rows && test row))
    ]
  where
    once : (a b c : Bool) → (a || (b || (c && a))) ≡ (b || (true && a))
    once true true c = refl
    once true false c = refl
    once false true c = refl
    once false false true = refl
    once false false false = refl

    grouped : (a b c : Bool) → (a || (b || c)) ≡ ((a || b) || c)
    grouped true b c = refl
    grouped false b c = refl

replaced_after : (set : DatedGrants) (test : ℕ → GrantRow → Bool) (clock : ℕ) (row : GrantRow) (grants : List GrantRow) → has_grant row grants ≡ true → FindsGrants set test clock (filter (λ (other : GrantRow). not (same_grant row other)) grants ++ row ∷ []) → FindsGrants set test clock (map (replaced row) grants)
replaced_after set test clock row grants has finds d k =
    let left : List GrantRow = filter (λ (other : GrantRow). not (same_grant row other)) grants in
    finds d k ∙ ap (λ b. nat_lt clock d && b) (list_any-append (keyed (test d) k) left (row ∷ []) ∙ sym (replaced_any (keyed (test d) k) row grants ∙ rw has (last (list_any (keyed (test d) k) left) (keyed (test d) k row))))
  where
    last : (a b : Bool) → (a || (true && b)) ≡ (a || (b || false))
    last true b = refl
    last false true = refl
    last false false = refl

-- it is the grant less, and then one more
pub replaced_finds : (dates : Dates) (clock : ℕ) (row : GrantRow) (rows : List MemberRow) (grants : List GrantRow) → has_grant row grants ≡ true → AreFound dates clock rows (filter (λ (other : GrantRow). not (same_grant row other)) grants ++ row ∷ []) → AreFound dates clock rows (map (replaced row) grants)
replaced_finds dates clock row rows grants has finds = record {
  begins = finds.begins;
  ends = finds.ends;
  grant_begins = replaced_after dates.grant_begins grant_begins_at clock row grants has finds.grant_begins;
  grant_ends = replaced_after dates.grant_ends grant_ends_at clock row grants has finds.grant_ends;
}

-- ---- the grants on an object, one after another
one_gone : (old new : DatedGrants) (test : ℕ → GrantRow → Bool) (row : GrantRow) → ((d : ℕ) (k : GrantKey) → has_dated_grant new d k ≡ (not (test d row && same_key (key_of row) k) && has_dated_grant old d k)) → LosesGrants old new test (row ∷ [])
one_gone old new test row gone d k = gone d k ∙ ap (λ b. not b && has_dated_grant old d k) (sym (alone (keyed (test d) k row)))
  where
    alone : (b : Bool) → (b || false) ≡ b
    alone true = refl
    alone false = refl

pub row_gone : (old new : Dates) (row : GrantRow) → ((d : ℕ) (k : GrantKey) → has_dated_grant new.grant_begins d k ≡ (not (is_date d row.from && same_key (key_of row) k) && has_dated_grant old.grant_begins d k)) → ((d : ℕ) (k : GrantKey) → has_dated_grant new.grant_ends d k ≡ (not (is_date d row.until && same_key (key_of row) k) && has_dated_grant old.grant_ends d k)) → new.begins ≡ old.begins → new.ends ≡ old.ends → LosesGrantDates old new (row ∷ [])
row_gone old new row begun ended same like = record {
  begins = same;
  ends = like;
  grant_begins = one_gone old.grant_begins new.grant_begins grant_begins_at row begun;
  grant_ends = one_gone old.grant_ends new.grant_ends grant_ends_at row ended;
}

none_lost : (old : DatedGrants) (test : ℕ → GrantRow → Bool) → LosesGrants old old test []
none_lost old test d k = refl

one_lost : (old mid new : DatedGrants) (test : ℕ → GrantRow → Bool) (rows : List GrantRow) (row : GrantRow) → LosesGrants old mid test rows → LosesGrants mid new test (row ∷ []) → LosesGrants old new test (rows ++ row ∷ [])
one_lost old mid new test rows row before after d k =
    after d k
    ∙ rw (before d k, list_any-append (keyed (test d) k) rows (row ∷ [])) (both (keyed (test d) k row) (list_any (keyed (test d) k) rows) (has_dated_grant old d k))
  where
    both : (a b h : Bool) → (not (a || false) && (not b && h)) ≡ (not (b || (a || false)) && h)
    both true true h = refl
    both true false h = refl
    both false true h = refl
    both false false h = refl

pub nothing_lost : (dates : Dates) → LosesGrantDates dates dates []
nothing_lost dates = record { begins = refl; ends = refl; grant_begins = none_lost dates.grant_begins grant_begins_at; grant_ends = none_lost dates.grant_ends grant_ends_at }

pub next_lost : (old mid new : Dates) (rows : List GrantRow) (row : GrantRow) → LosesGrantDates old mid rows → LosesGrantDates mid new (row ∷ []) → LosesGrantDates old new (rows ++ row ∷ [])
next_lost old mid new rows row before after = record {
  begins = after.begins ∙ before.begins;
  ends = after.ends ∙ before.ends;
  grant_begins = one_lost old.grant_begins mid.grant_begins new.grant_begins grant_begins_at rows row before.grant_begins after.grant_begins;
  grant_ends = one_lost old.grant_ends mid.grant_ends new.grant_ends grant_ends_at rows row before.grant_ends after.grant_ends;
}

-- those so far and the rest are all
abbrev pub HaveLost : Dates → Dates → List GrantRow → List GrantRow → Type 0
HaveLost old mid rest all = (done : List GrantRow) × (done ++ rest ≡ all) × LosesGrantDates old mid done

pub next_done : (old mid new : Dates) (rest after all : List GrantRow) (row : GrantRow) → HaveLost old mid rest all → rest ≡ row ∷ after → LosesGrantDates mid new (row ∷ []) → HaveLost old new after all
next_done old mid new rest after all row so_far step gone = (
  so_far.0 ++ row ∷ [],
  append_assoc so_far.0 (row ∷ []) after ∙ (ap (λ (rows : List GrantRow). so_far.0 ++ rows) (sym step) ∙ so_far.1),
  next_lost old mid new so_far.0 row so_far.2 gone,
)

pub end_done : (old new : Dates) (rest all : List GrantRow) → HaveLost old new rest all → rest ≡ [] → LosesGrantDates old new all
end_done old new rest all so_far e =
    let whole : so_far.0 ≡ all = sym (append-nil so_far.0) ∙ (ap (λ (rows : List GrantRow). so_far.0 ++ rows) (sym e) ∙ so_far.1) in
    subst (λ (rows : List GrantRow). LosesGrantDates old new rows) whole so_far.2

-- those that are found on an object are all
same_lost : (old new : DatedGrants) (test : ℕ → GrantRow → Bool) (rows all : List GrantRow) → ((t : GrantRow → Bool) → list_any t rows ≡ list_any t all) → LosesGrants old new test rows → LosesGrants old new test all
same_lost old new test rows all same gone d k = gone d k ∙ ap (λ b. not b && has_dated_grant old d k) (same (keyed (test d) k))

pub all_lost : (old new : Dates) (rows all : List GrantRow) → ((t : GrantRow → Bool) → list_any t rows ≡ list_any t all) → LosesGrantDates old new rows → LosesGrantDates old new all
all_lost old new rows all same gone = record {
  begins = gone.begins;
  ends = gone.ends;
  grant_begins = same_lost old.grant_begins new.grant_begins grant_begins_at rows all same gone.grant_begins;
  grant_ends = same_lost old.grant_ends new.grant_ends grant_ends_at rows all same gone.grant_ends;
}
