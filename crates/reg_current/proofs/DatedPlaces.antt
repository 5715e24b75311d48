-- Rows at dates, as an ordered set keeps them.
use Rattle.std.proofs.Common.{◌≡◌, ◌≤◌, ◌<◌, ◌==◌, ◌+◌, ◌&&◌, ◌||◌, ◌^◌, ℕ, List, [], ◌∷◌, Bool, true, false, not, cond, map, filter, Option, Some, None, Bor, arith, refl, sym, ◌∙◌, ap, subst, inl, inr}
use Rattle.std.specs.Prelude.{if◌then◌else◌, IsTrue, MatchOption, OnOk, OnErr, Result}
use Rattle.std.specs.declared.result.Result.TheVariants.{Ok, Err}
use Rattle.std.specs.List.{All, list_any, AllByRecursion}
use Rattle.std.specs.List.Sorted.{IsStrictlySortedBy}
use Rattle.std.specs.Option.{option_copied}
use Rattle.std.specs.Map.Iter.{TakesFirst, deref}
use Rattle.std.specs.BTreeMap.{is_at}
use Rattle.std.specs.BTreeMap.Range.{range_contains}
use Rattle.std.specs.BTreeSet.{BTreeSet, contains, insert_key, Updates, IsUnchanged, IsLowerBound}
use Rattle.std.specs.Set.{remove_key}
use Rattle.std.specs.Ordering.{is_eq, is_gt, nat_cmp, ordering_then}
use Rattle.std.specs.declared.cmp.Ordering.{Ordering}
use Rattle.std.specs.declared.cmp.Ordering.TheVariants.{Less, Equal, Greater}
use Rattle.std.specs.declared.ops.Bound.TheVariants.{Included}
use Rattle.std.proofs.lemmas.Grind.{common_steps}
use Rattle.std.proofs.lemmas.Bool.Decides.{nat_tests}
use Rattle.std.proofs.lemmas.Bool.{cases_Bool, eqb-true, or_left, or_right}
use Rattle.std.proofs.lemmas.List.Elements.{recursion_from_All}
use Rattle.std.proofs.lemmas.Map.Views.{All-insert_key, All-remove_key}
use Rattle.reg_terms.specs.declared.kinds.Member.{Member}
use Rattle.reg_terms.specs.declared.kinds.Member.TheVariants.{Person, Group}
use Rattle.reg_terms.specs.contracts.kinds.MemberOrd.TheImpl.{ghosts}
use Rattle.reg_terms.specs.Rows.{member_cmp}
use Rattle.reg_effect.specs.Order.{row_cmp, is_live_row, has_live_row}
use Rattle.reg_effect.proofs.LiveOf.{row_turned}
use Rattle.reg_current.specs.declared.dated_rows.DatedRows.{DatedRows}
use Rattle.reg_current.specs.Members.{member_id}
use Rattle.reg_current.specs.Coming.{dated_cmp, has_dated, same_dated, IsFirst, AreDated}

-- a row of a group at a date
abbrev pub Dated : Type 0
Dated = ℕ × ℕ × Member

-- its ids are numbers of 32 bits
abbrev pub Small : Dated → Type 0
Small r = (r.1 < 2 ^ 32) × (member_id r.2 < 2 ^ 32)

-- the row without its date
abbrev pub row_of : Dated → ℕ × Member
row_of r = (r.1, r.2)

-- ---- the order that is derived for rows at dates is theirs
member_order_is : (m n : Member) → ghosts.cmp m n ≡ member_cmp m n
member_order_is (Person a) (Person b) = refl
member_order_is (Person a) (Group b) = refl
member_order_is (Group a) (Person b) = refl
member_order_is (Group a) (Group b) = refl

abbrev pub derived_cmp : Dated → Dated → Ordering
derived_cmp a b = ordering_then (ordering_then (nat_cmp a.0 b.0) (nat_cmp a.1 b.1)) (ghosts.cmp a.2 b.2)

pub derived_is : (a b : Dated) → derived_cmp a b ≡ dated_cmp a b
derived_is a b = ap (λ o. ordering_then (ordering_then (nat_cmp a.0 b.0) (nat_cmp a.1 b.1)) o) (member_order_is a.2 b.2)

contains_is : (rs : List Dated) (k : Dated) → list_any (is_at (derived_cmp k)) rs ≡ list_any (is_at (dated_cmp k)) rs
contains_is [] k = refl
contains_is (r ∷ rs) k = rw (derived_is k r, contains_is rs k) refl

part_is : (low high : Dated) (rs : List Dated) → filter (range_contains derived_cmp (Included low) (Included high)) rs ≡ filter (range_contains dated_cmp (Included low) (Included high)) rs
part_is low high [] = refl
part_is low high (r ∷ rs) = rw (derived_is low r, derived_is high r, part_is low high rs) refl

all_less : (r : Dated) (rs : List Dated) → AllByRecursion (λ q. derived_cmp r q ≡ Less) rs → AllByRecursion (λ q. dated_cmp r q ≡ Less) rs
all_less r [] h = tt
all_less r (q ∷ rs) h = (sym (derived_is r q) ∙ h.0, all_less r rs h.1)

sorted_is : (rs : List Dated) → IsStrictlySortedBy derived_cmp rs → IsStrictlySortedBy dated_cmp rs
unfolding IsStrictlySortedBy
sorted_is [] h = tt
sorted_is (r ∷ rs) h = (all_less r rs h.0, sorted_is rs h.1)

-- ---- rows at one place are one
never : (o p : Ordering) → is_eq (ordering_then (ordering_then o p) Less) ≡ false
never Less p = refl
never Equal Less = refl
never Equal Equal = refl
never Equal Greater = refl
never Greater p = refl

never_too : (o p : Ordering) → is_eq (ordering_then (ordering_then o p) Greater) ≡ false
never_too Less p = refl
never_too Equal Less = refl
never_too Equal Equal = refl
never_too Equal Greater = refl
never_too Greater p = refl

none_of : (a b : Bool) → (a && (b && false)) ≡ false
none_of true true = refl
none_of true false = refl
none_of false b = refl

three_equal : (a b c x y z : ℕ) → is_eq (ordering_then (ordering_then (nat_cmp a x) (nat_cmp b y)) (nat_cmp c z)) ≡ ((x == a) && ((y == b) && (z == c)))
three_equal a b c x y z = grind (arith, nat_tests, common_steps)

pub at_dated : (d g : ℕ) (m : Member) (x y : ℕ) (n : Member) → is_at (dated_cmp (d, g, m)) (x, y, n) ≡ ((x == d) && is_live_row g m (y, n))
at_dated d g (Person p) x y (Person q) = three_equal d g p x y q
at_dated d g (Person p) x y (Group q) = never (nat_cmp d x) (nat_cmp g y) ∙ sym (none_of (x == d) (y == g))
at_dated d g (Group p) x y (Person q) = never_too (nat_cmp d x) (nat_cmp g y) ∙ sym (none_of (x == d) (y == g))
at_dated d g (Group p) x y (Group q) = three_equal d g p x y q

turned : (a b : ℕ) → (a == b) ≡ (b == a)
turned a b = grind (arith, nat_tests)

pub dated_same : (date group : ℕ) (member : Member) (d g : ℕ) (m : Member) → is_at (dated_cmp (date, group, member)) (d, g, m) ≡ same_dated date group member d g m
dated_same date group member d g m =
    at_dated date group member d g m
    ∙ (ap (λ b. b && is_live_row group member (g, m)) (turned d date)
    ∙ ap (λ b. (date == d) && b) (row_turned group g member m))

-- ---- one more, one less
updated : (old new : BTreeSet Dated) (key : Dated) (b : Bool) → Updates derived_cmp old new key b → (q : Dated) → contains dated_cmp new q ≡ cond (is_at (dated_cmp key) q) b (contains dated_cmp old q)
updated old new key b u q = sym (contains_is new.keys q) ∙ (u.0 q ∙ rw (derived_is key q, contains_is old.keys q) refl)

pub inserted : (old new : BTreeSet Dated) (date group : ℕ) (member : Member) → Updates derived_cmp old new (date, group, member) true → (d g : ℕ) (m : Member) → contains dated_cmp new (d, g, m) ≡ (same_dated date group member d g m || contains dated_cmp old (d, g, m))
inserted old new date group member u d g m =
    updated old new (date, group, member) true u (d, g, m) ∙ rw (dated_same date group member d g m) (joined (same_dated date group member d g m) (contains dated_cmp old (d, g, m)))
  where
    joined : (a b : Bool) → cond a true b ≡ (a || b)
    joined true b = refl
    joined false b = refl

pub removed : (old new : BTreeSet Dated) (date group : ℕ) (member : Member) → Updates derived_cmp old new (date, group, member) false → (d g : ℕ) (m : Member) → contains dated_cmp new (d, g, m) ≡ (not (same_dated date group member d g m) && contains dated_cmp old (d, g, m))
removed old new date group member u d g m =
    updated old new (date, group, member) false u (d, g, m) ∙ rw (dated_same date group member d g m) (parted (same_dated date group member d g m) (contains dated_cmp old (d, g, m)))
  where
    parted : (a b : Bool) → cond a false b ≡ (not a && b)
    parted true b = refl
    parted false b = refl

pub small_inserted : {E : Type 0} (r : Result Bool E) (key : Dated) (old new : BTreeSet Dated) → OnOk r (new.keys ≡ insert_key derived_cmp old.keys key) → OnErr r (IsUnchanged old new) → All Small old.keys → Small key → All Small new.keys
small_inserted (Ok b) key old new ok err all small = rw ok (All-insert_key derived_cmp key Small old.keys all small)
small_inserted (Err e) key old new ok err all small = rw err all

pub small_removed : (test : Dated → Bool) (old new : BTreeSet Dated) → new.keys ≡ remove_key test old.keys → All Small old.keys → All Small new.keys
small_removed test old new e all = rw e (All-remove_key test Small old.keys all)

-- ---- the first
no_later : (a h x k : ℕ) (o : Ordering) → is_gt (ordering_then (ordering_then (nat_cmp a x) (nat_cmp h k)) o) ≡ false → a ≤ x
no_later a h x k Less e = grind (arith, nat_tests, common_steps)
no_later a h x k Equal e = grind (arith, nat_tests, common_steps)
no_later a h x k Greater e = grind (arith, nat_tests, common_steps)

told : (b : Bool) → IsTrue b → b ≡ true
told true h = refl
told false h = absurd (let clash : ⊥ = cc in clash)

as_test : (b : Bool) → b ≡ true → IsTrue b
as_test b e = rw e (let t : IsTrue true = search (common_steps) in t)

pub first_is : (set : DatedRows) (r : Dated) → IsTrue (contains derived_cmp set.rows r) → IsLowerBound derived_cmp set.rows r → IsFirst set (Some r.0)
first_is set (a, h, n) has low = (
  (h, n, sym (contains_is set.rows.keys (a, h, n)) ∙ told (contains derived_cmp set.rows (a, h, n)) has),
  λ d g m e. no_later a h d g (ghosts.cmp n m) (low (d, g, m) (as_test (contains derived_cmp set.rows (d, g, m)) (contains_is set.rows.keys (d, g, m) ∙ e))),
)

-- ---- the rows at a date
abbrev pub range_at : ℕ → Dated → Bool
range_at d = range_contains dated_cmp (Included (d, 0, Person 0)) (Included (d, 4294967295, Group 4294967295))

-- the same by the order that is derived
abbrev pub derived_at : ℕ → Dated → Bool
derived_at d = range_contains derived_cmp (Included (d, 0, Person 0)) (Included (d, 4294967295, Group 4294967295))

in_range_at : (d a g : ℕ) (m : Member) → g < 2 ^ 32 → member_id m < 2 ^ 32 → range_at d (a, g, m) ≡ (a == d)
in_range_at d a g (Person p) h i = grind (arith, nat_tests, common_steps)
in_range_at d a g (Group k) h i = grind (arith, nat_tests, common_steps)

rows_at : (date g : ℕ) (m : Member) (rs : List Dated) → AllByRecursion Small rs → has_live_row g m (map row_of (filter (range_at date) rs)) ≡ list_any (is_at (dated_cmp (date, g, m))) rs
rows_at date g m [] h = refl
rows_at date g m ((a, k, n) ∷ rs) h =
    let rest = rows_at date g m rs h.1 in
    rw (in_range_at date a k n h.0.0 h.0.1, at_dated date g m a k n) (elim (cases_Bool (a == date)) [
      | inl t ↦ rw (t, rest) refl
      | inr f ↦ rw (f, rest) refl
    ])

equal_self : (a : ℕ) → nat_cmp a a ≡ Equal
equal_self a = grind (arith, nat_tests)

row_less : (a g x k : ℕ) (m n : Member) → a ≡ x → dated_cmp (a, g, m) (x, k, n) ≡ Less → row_cmp (g, m) (k, n) ≡ Less
row_less a g x k m n s h = rw (s, equal_self x) at h

later_rows : (date g : ℕ) (m : Member) (rs : List Dated) → AllByRecursion Small rs → AllByRecursion (λ q. dated_cmp (date, g, m) q ≡ Less) rs → AllByRecursion (λ r. row_cmp (g, m) r ≡ Less) (map row_of (filter (range_at date) rs))
later_rows date g m [] h l = tt
later_rows date g m ((a, k, n) ∷ rs) h l =
    let rest = later_rows date g m rs h.1 l.1 in
    rw (in_range_at date a k n h.0.0 h.0.1) (elim (cases_Bool (a == date)) [
      | inl t ↦ rw t (row_less date g a k m n (sym (eqb-true a date t)) l.0, rest)
      | inr f ↦ rw f rest
    ])

rows_ordered : (date : ℕ) (rs : List Dated) → AllByRecursion Small rs → IsStrictlySortedBy dated_cmp rs → IsStrictlySortedBy row_cmp (map row_of (filter (range_at date) rs))
unfolding IsStrictlySortedBy
rows_ordered date [] h s = tt
rows_ordered date ((a, k, n) ∷ rs) h s =
    let rest = rows_ordered date rs h.1 s.1 in
    rw (in_range_at date a k n h.0.0 h.0.1) (elim (cases_Bool (a == date)) [
      | inl t ↦ rw t (later_rows date k n rs h.1 (subst (λ x. AllByRecursion (λ q. dated_cmp (x, k, n) q ≡ Less) rs) (eqb-true a date t) s.0), rest)
      | inr f ↦ rw f rest
    ])

pub are_dated : (set : DatedRows) (date : ℕ) (rows : List (ℕ × Member)) (rs : List Dated) → rows ≡ map row_of rs → rs ≡ filter (derived_at date) set.rows.keys → IsStrictlySortedBy derived_cmp set.rows.keys → AreDated set date rows
are_dated set date rows rs a b s =
    let all = recursion_from_All Small set.rows.keys set.are_small in
    let are : rows ≡ map row_of (filter (range_at date) set.rows.keys) = a ∙ ap (λ qs. map row_of qs) (b ∙ part_is (date, 0, Person 0) (date, 4294967295, Group 4294967295) set.rows.keys) in
    record {
      ordered = rw are (rows_ordered date set.rows.keys all (sorted_is set.rows.keys s));
      same = λ g m. rw are (rows_at date g m set.rows.keys all);
    }

-- ---- the first row at a date
none_at : (date : ℕ) (rs : List Dated) → AllByRecursion Small rs → filter (range_at date) rs ≡ [] → (g : ℕ) (m : Member) → list_any (is_at (dated_cmp (date, g, m))) rs ≡ false
none_at date rs h e g m = sym (rows_at date g m rs h) ∙ rw e refl

equal_member : (m : Member) → member_cmp m m ≡ Equal
equal_member (Person p) = equal_self p
equal_member (Group k) = equal_self k

equal_here : (a g : ℕ) (m : Member) → is_at (dated_cmp (a, g, m)) (a, g, m) ≡ true
equal_here a g m = rw (equal_self a, equal_self g, equal_member m) refl

found_at : (date : ℕ) (r : Dated) (t rs : List Dated) → AllByRecursion Small rs → filter (range_at date) rs ≡ r ∷ t → (r.0 ≡ date) × (list_any (is_at (dated_cmp r)) rs ≡ true)
found_at date r t [] h e = absurd (let clash : ⊥ = cc in clash)
found_at date r t ((a, k, n) ∷ rs) h e =
    let here : cond (a == date) ((a, k, n) ∷ filter (range_at date) rs) (filter (range_at date) rs) ≡ r ∷ t = rw (in_range_at date a k n h.0.0 h.0.1) at e in
    elim (cases_Bool (a == date)) [
      | inl y ↦
          let first : (a, k, n) ∷ filter (range_at date) rs ≡ r ∷ t = rw y at here in
          subst (λ (q : Dated). (q.0 ≡ date) × (list_any (is_at (dated_cmp q)) ((a, k, n) ∷ rs) ≡ true)) (head_is (a, k, n) r (filter (range_at date) rs) t first)
          (eqb-true a date y, or_left (is_at (dated_cmp (a, k, n)) (a, k, n)) (list_any (is_at (dated_cmp (a, k, n))) rs) (equal_here a k n))
      | inr f ↦
          let rest = found_at date r t rs h.1 (rw f at here) in
          (rest.0, or_right (is_at (dated_cmp r) (a, k, n)) (list_any (is_at (dated_cmp r)) rs) rest.1)
    ]
  where
    head_is : (q r : Dated) (qs rs : List Dated) → q ∷ qs ≡ r ∷ rs → q ≡ r
    head_is q r qs rs e = cc

pub row_is : (set : DatedRows) (date : ℕ) (r : Option (Bor Dated)) (o : Option Dated) (rs t : List Dated) → o ≡ option_copied r → TakesFirst deref rs r t → rs ≡ filter (derived_at date) set.rows.keys
    → MatchOption o ((g : ℕ) (m : Member) → has_dated set date g m ≡ false) (λ row. (row.0 ≡ date) × (contains dated_cmp set.rows row ≡ true))
row_is set date None o rs t e h s =
    let part : filter (range_at date) set.rows.keys ≡ [] = sym (part_is (date, 0, Person 0) (date, 4294967295, Group 4294967295) set.rows.keys) ∙ (sym s ∙ h.0) in
    rw e (λ g m. none_at date set.rows.keys (recursion_from_All Small set.rows.keys set.are_small) part g m)
row_is set date (Some x) o rs t e h s =
    let part : filter (range_at date) set.rows.keys ≡ x.now ∷ t = sym (part_is (date, 0, Person 0) (date, 4294967295, Group 4294967295) set.rows.keys) ∙ (sym s ∙ h) in
    rw e (found_at date x.now t set.rows.keys (recursion_from_All Small set.rows.keys set.are_small) part)

-- ---- one less at a date
pub kept_at : (old new : BTreeSet Dated) (r : Dated) (date : ℕ) → r.0 ≡ date → Updates derived_cmp old new r false → (d g : ℕ) (m : Member) → (date == d) ≡ false → contains dated_cmp new (d, g, m) ≡ contains dated_cmp old (d, g, m)
kept_at old new (a, k, n) date e u d g m f =
    let other : is_at (dated_cmp (a, k, n)) (d, g, m) ≡ false = at_dated a k n d g m ∙ rw (e, turned d date, f) refl in
    updated old new (a, k, n) false u (d, g, m) ∙ rw other refl

-- a row that is found goes, and leaves fewer
pub fewer : (b : Bool) (left all : ℕ) (old : BTreeSet Dated) (r : Dated) → contains dated_cmp old r ≡ true → b ≡ contains derived_cmp old r → left + (if b then 1 else 0) ≡ all → left < all
fewer true left all old r has is sum = omega (arith, sum)
fewer false left all old r has is sum = absurd (let gone : false ≡ true = is ∙ (contains_is old.keys r ∙ has) in let clash : ⊥ = cc in clash)

pub none_left : (set old : DatedRows) (date : ℕ) → ((g : ℕ) (m : Member) → has_dated set date g m ≡ false) → ((d g : ℕ) (m : Member) → (date == d) ≡ false → has_dated set d g m ≡ has_dated old d g m) → (d g : ℕ) (m : Member) → has_dated set d g m ≡ (not (date == d) && has_dated old d g m)
none_left set old date none same d g m = elim (cases_Bool (date == d)) [
  | inl t ↦ rw (t, ← eqb-true date d t) (none g m)
  | inr f ↦ rw f (same d g m f)
]
