-- What a test finds in a list after one entry more or less.
use Rattle.std.proofs.Common.{◌≡◌, ◌==◌, ◌&&◌, ◌||◌, ℕ, List, [], ◌∷◌, Bool, true, false, refl, sym, ◌∙◌, ap, inl, inr}
use Rattle.std.proofs.lemmas.Bool.{cases_Bool, eqb-true, and_parts, or_parts}
use Rattle.std.specs.List.{list_any}
use Rattle.std.specs.BTreeSet.{insert_key}
use Rattle.std.specs.Set.{remove_key}
use Rattle.std.specs.BTreeMap.{is_at}
use Rattle.std.specs.Ordering.{nat_cmp, ordering_then, match_ordering, is_eq}
use Rattle.std.specs.declared.cmp.Ordering.{Ordering}
use Rattle.std.specs.declared.cmp.Ordering.TheVariants.{Less, Equal, Greater}
use Rattle.reg_terms.specs.declared.kinds.Member.{Member}
use Rattle.reg_terms.specs.declared.kinds.Member.TheVariants.{Person, Group}
use Rattle.reg_terms.specs.declared.rows.CompositeRow.{CompositeRow}
use Rattle.reg_terms.specs.Kinds.{same_member}
use Rattle.reg_effect.specs.Order.{row_cmp, composite_cmp, is_live_row, has_live_row}
use Rattle.reg_terms.specs.Rows.{is_composite}
use Rattle.reg_graph.proofs.Kept.{at_pair}
use Rattle.reg_effect.proofs.Places.{at_number}

-- a test that what is taken out fails sees no difference
pub any_removed : {X : Type 0} (t test : X → Bool) → ((x : X) → t x ≡ true → test x ≡ false) → (xs : List X) → list_any test (remove_key t xs) ≡ list_any test xs
any_removed t test h [] = refl
any_removed t test h (x ∷ xs) =
    let rest = any_removed t test h xs in
    elim (cases_Bool (t x)) [
      | inl y ↦ rw (y, h x y) refl
      | inr n ↦ rw (n, rest) refl
    ]

-- a test that can't tell equal entries apart finds what comes, or what was there
pub any_put : {X : Type 0} (cmp : X → X → Ordering) (test : X → Bool) (x : X) → ((y : X) → cmp x y ≡ Equal → test y ≡ test x) → (xs : List X) → list_any test (insert_key cmp xs x) ≡ (test x || list_any test xs)
any_put cmp test x h [] = refl
any_put cmp test x h (y ∷ ys) = go (any_put cmp test x h ys) (cmp x y) refl
  where
    twice : (a b : Bool) → (a || b) ≡ (a || (a || b))
    twice true b = refl
    twice false b = refl

    swap : (a b c : Bool) → (a || (b || c)) ≡ (b || (a || c))
    swap true true c = refl
    swap true false c = refl
    swap false true c = refl
    swap false false c = refl

    go : list_any test (insert_key cmp ys x) ≡ (test x || list_any test ys) → (o : Ordering) → cmp x y ≡ o → list_any test (match_ordering o (x ∷ y ∷ ys) (y ∷ ys) (y ∷ insert_key cmp ys x)) ≡ (test x || (test y || list_any test ys))
    go r Less e = refl
    go r Equal e = rw (h y e) (twice (test x) (list_any test ys))
    go r Greater e = rw r (swap (test y) (test x) (list_any test ys))

-- and any test where what comes isn't there
pub any_new : {X : Type 0} (cmp : X → X → Ordering) (test : X → Bool) (x : X) (xs : List X) → list_any (λ y. is_eq (cmp x y)) xs ≡ false → list_any test (insert_key cmp xs x) ≡ (test x || list_any test xs)
any_new cmp test x [] h = refl
any_new cmp test x (y ∷ ys) h =
    let parts = or_parts (is_eq (cmp x y)) (list_any (λ y. is_eq (cmp x y)) ys) h in
    go (any_new cmp test x ys parts.1) (cmp x y) parts.0
  where
    swap : (a b c : Bool) → (a || (b || c)) ≡ (b || (a || c))
    swap true true c = refl
    swap true false c = refl
    swap false true c = refl
    swap false false c = refl

    go : list_any test (insert_key cmp ys x) ≡ (test x || list_any test ys) → (o : Ordering) → is_eq o ≡ false → list_any test (match_ordering o (x ∷ y ∷ ys) (y ∷ ys) (y ∷ insert_key cmp ys x)) ≡ (test x || (test y || list_any test ys))
    go r Less e = refl
    go r Equal e = cc
    go r Greater e = rw r (swap (test y) (test x) (list_any test ys))

-- nothing new for a test that what comes fails
pub any_added : {X : Type 0} (cmp : X → X → Ordering) (test : X → Bool) (x : X) → ((y : X) → cmp x y ≡ Equal → test y ≡ test x) → test x ≡ false → (xs : List X) → list_any test (insert_key cmp xs x) ≡ list_any test xs
any_added cmp test x h f xs = any_put cmp test x h xs ∙ rw f refl

-- rows at one place are one
apart : (o : Ordering) (b : Bool) → (is_eq (ordering_then o Less) ≡ (b && false)) × (is_eq (ordering_then o Greater) ≡ (b && false))
apart Less true = (refl, refl)
apart Less false = (refl, refl)
apart Equal true = (refl, refl)
apart Equal false = (refl, refl)
apart Greater true = (refl, refl)
apart Greater false = (refl, refl)

pub row_eq : (g : ℕ) (m : Member) (y : ℕ) (n : Member) → is_eq (row_cmp (g, m) (y, n)) ≡ is_live_row g m (y, n)
row_eq g (Person p) y (Person q) = at_pair g p y q
row_eq g (Person p) y (Group q) = (apart (nat_cmp g y) (y == g)).0
row_eq g (Group p) y (Person q) = (apart (nat_cmp g y) (y == g)).1
row_eq g (Group p) y (Group q) = at_pair g p y q

-- the row that stands at a place is taken out
pub rows_removed : (g : ℕ) (m : Member) (rows : List (ℕ × Member)) → remove_key (is_at (row_cmp (g, m))) rows ≡ remove_key (is_live_row g m) rows
rows_removed g m [] = refl
rows_removed g m (r ∷ rs) = rw (row_eq g m r.0 r.1, rows_removed g m rs) refl

pub member_is : (m n : Member) → same_member n m ≡ true → n ≡ m
member_is (Person a) (Person b) h = rw (eqb-true b a h) refl
member_is (Person a) (Group b) h = cc
member_is (Group a) (Person b) h = cc
member_is (Group a) (Group b) h = rw (eqb-true b a h) refl

pub row_is : (g : ℕ) (m : Member) (y : ℕ) (n : Member) → is_live_row g m (y, n) ≡ true → (y ≡ g) × (n ≡ m)
row_is g m y n h = let w = and_parts (y == g) (same_member n m) h in (eqb-true y g w.0, member_is m n w.1)

pub row_equal : (g : ℕ) (m : Member) (r : ℕ × Member) → row_cmp (g, m) r ≡ Equal → r ≡ (g, m)
row_equal g m (y, n) e = let w = row_is g m y n (sym (row_eq g m y n) ∙ ap is_eq e) in rw (w.0, w.1) refl

pub row_same : (g : ℕ) (m : Member) (test : ℕ × Member → Bool) (r : ℕ × Member) → row_cmp (g, m) r ≡ Equal → test r ≡ test (g, m)
row_same g m test r e = ap test (row_equal g m r e)

pub rows_absent : (g : ℕ) (m : Member) (rows : List (ℕ × Member)) → list_any (λ r. is_eq (row_cmp (g, m) r)) rows ≡ has_live_row g m rows
rows_absent g m [] = refl
rows_absent g m (r ∷ rs) = rw (row_eq g m r.0 r.1, rows_absent g m rs) refl

-- composites at one place are of one group
pub group_same : (c d : CompositeRow) → composite_cmp c d ≡ Equal → (d.group == c.group) ≡ true
group_same c d e = sym (at_number c.group d.group) ∙ ap is_eq e

pub composite_absent : (c : CompositeRow) (cs : List CompositeRow) → list_any (λ d. is_eq (composite_cmp c d)) cs ≡ is_composite c.group cs
composite_absent c [] = refl
composite_absent c (d ∷ ds) = rw (at_number c.group d.group, composite_absent c ds) refl

pub composite_added : (x : ℕ) (c : CompositeRow) (cs : List CompositeRow) → is_composite x (insert_key composite_cmp cs c) ≡ ((c.group == x) || is_composite x cs)
composite_added x c cs = any_put composite_cmp (λ (d : CompositeRow). d.group == x) c (λ d e. ap (λ y. y == x) (eqb-true d.group c.group (group_same c d e))) cs
