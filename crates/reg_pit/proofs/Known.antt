-- The first numbers of the pairs that are on with a second one, by what is known the other way round.
use Rattle.std.proofs.Common.{◌≡◌, ◌≤◌, ◌^◌, ◌==◌, ◌&&◌, ◌||◌, ℕ, List, [], ◌∷◌, Bool, true, false, map, filter, nat_le, arith, refl, sym, ◌∙◌, inl, inr}
use Rattle.std.proofs.lemmas.Bool.{cases_Bool, and_parts, eqb-true, or_right}
use Rattle.std.proofs.lemmas.Bool.Decides.{nat_tests}
use Rattle.std.proofs.lemmas.Grind.{common_steps}
use Rattle.std.proofs.lemmas.List.Kept.{IsStrictlySortedBy-filter}
use Rattle.std.specs.List.{list_any, AllByRecursion}
use Rattle.std.specs.List.Sorted.{IsStrictlySortedBy}
use Rattle.std.specs.BTreeMap.Range.{range_contains}
use Rattle.std.specs.Ordering.{eq_by_cmp}
use Rattle.std.specs.declared.ops.Bound.TheVariants.{Included}
use Rattle.reg_pit.specs.Members.{pair_cmp, are_on, has_pair, Lists, AreKnown}
use Rattle.reg_pit.proofs.Between.{found_first}
use Rattle.reg_pit.proofs.Pairs.{same_pair, ascending}

-- whether a pair was on at a moment, the other way round
abbrev pub is_then : List (((ℕ × ℕ) × ℕ) × ℕ) → ℕ → ℕ → ℕ × ℕ → Bool
is_then pairs y t q = are_on pairs q.1 y t

-- its second number
abbrev pub second : ℕ × ℕ → ℕ
second q = q.1

within : (y top m n : ℕ) → range_contains pair_cmp (Included (y, 0)) (Included (y, top)) (m, n) ≡ ((m == y) && nat_le n top)
within y top m n = grind (arith, nat_tests, common_steps)

passes : (a b c l : Bool) → a ≡ true → b ≡ true → c ≡ true → ((a && b && c) || l) ≡ true
passes a b c l p q r = rw (p, q, r) refl

either : (a l : Bool) → (a || l) ≡ true → a ≡ false → l ≡ true
either a l h f = rw f at h

fails : (a b c l : Bool) → (c ≡ true → b ≡ false) → l ≡ false → ((a && b && c) || l) ≡ false
fails a b false l f h = none a b l h
  where
    none : (a b l : Bool) → l ≡ false → ((a && b && false) || l) ≡ false
    none true true l h = h
    none true false l h = h
    none false b l h = h
fails a b true l f h = rw (f refl) (none a l h)
  where
    none : (a l : Bool) → l ≡ false → ((a && false && true) || l) ≡ false
    none true l h = h
    none false l h = h

module _ (pairs : List (((ℕ × ℕ) × ℕ) × ℕ)) (y t top : ℕ) where
  abbrev pub those : List (ℕ × ℕ) → List (ℕ × ℕ)
  those reversed = filter (is_then pairs y t) (filter (range_contains pair_cmp (Included (y, 0)) (Included (y, top))) reversed)

  firsts : (reversed : List (ℕ × ℕ)) → AllByRecursion (λ (q : ℕ × ℕ). q.0 ≡ y) (those reversed)
  firsts [] = tt
  firsts (q ∷ reversed) = elim (cases_Bool (range_contains pair_cmp (Included (y, 0)) (Included (y, top)) (q.0, q.1))) [
    | inl i ↦ rw i (elim (cases_Bool (is_then pairs y t (q.0, q.1))) [
      | inl e ↦ rw e (eqb-true q.0 y (and_parts (q.0 == y) (nat_le q.1 top) (sym (within y top q.0 q.1) ∙ i)).0, firsts reversed)
      | inr f ↦ rw f (firsts reversed)
    ])
    | inr i ↦ rw i (firsts reversed)
  ]

  found : (n : ℕ) (reversed : List (ℕ × ℕ)) → are_on pairs n y t ≡ true → nat_le n top ≡ true → has_pair (y, n) reversed ≡ true → list_any (λ (x : ℕ). x == n) (map second (those reversed)) ≡ true
  found n [] e w h = cc
  found n ((a, b) ∷ reversed) e w h =
      found_first (λ (x : ℕ). x == n) second (is_then pairs y t) (range_contains pair_cmp (Included (y, 0)) (Included (y, top))) (a, b) reversed ∙ elim (cases_Bool (eq_by_cmp pair_cmp (y, n) (a, b))) [
        | inl i ↦
            let same = and_parts (a == y) (b == n) (sym (same_pair y n a b) ∙ i) in
            let one : b ≡ n = eqb-true b n same.1 in
            passes _ _ _ _ (within y top a b ∙ rw (same.0, one) w) (rw one e) same.1
        | inr i ↦ or_right _ _ (found n reversed e w (either _ _ h i))
      ]

  only : (n : ℕ) (reversed : List (ℕ × ℕ)) → are_on pairs n y t ≡ false → list_any (λ (x : ℕ). x == n) (map second (those reversed)) ≡ false
  only n [] e = refl
  only n ((a, b) ∷ reversed) e =
      found_first (λ (x : ℕ). x == n) second (is_then pairs y t) (range_contains pair_cmp (Included (y, 0)) (Included (y, top))) (a, b) reversed
      ∙ fails _ (are_on pairs b y t) (b == n) _ (λ i. rw (eqb-true b n i) e) (only n reversed e)

pub firsts_then : (pairs : List (((ℕ × ℕ) × ℕ) × ℕ)) (y t low top : ℕ) (reversed part : List (ℕ × ℕ)) (numbers : List ℕ) → AreKnown pairs reversed → IsStrictlySortedBy pair_cmp reversed → low ≡ 0 → top ≡ 4294967295
    → part ≡ filter (range_contains pair_cmp (Included (y, low)) (Included (y, top))) reversed → numbers ≡ map second (filter (is_then pairs y t) part) → Lists (λ n. are_on pairs n y t) numbers
firsts_then pairs y t low top reversed part numbers kept sorted low_is top_is part_is numbers_are =
    let all : numbers ≡ map second (those pairs y t 4294967295 reversed) = numbers_are ∙ rw (part_is, low_is, top_is) refl in
    rw all (record {
      ascending = ascending y (those pairs y t 4294967295 reversed) (firsts pairs y t 4294967295 reversed)
          (IsStrictlySortedBy-filter pair_cmp _ _ (IsStrictlySortedBy-filter pair_cmp _ reversed sorted));
      each = λ n. elim (cases_Bool (are_on pairs n y t)) [
        | inl e ↦ found pairs y t 4294967295 n reversed e (fits n e) (kept.known n y t e) ∙ sym e
        | inr f ↦ only pairs y t 4294967295 n reversed f ∙ sym f
      ];
    })
  where
    fits : (n : ℕ) → are_on pairs n y t ≡ true → nat_le n 4294967295 ≡ true
    fits n e = elim (cases_Bool (nat_le n 4294967295)) [
      | inl w ↦ w
      | inr w ↦ let large : 2 ^ 32 ≤ n = grind (arith, nat_tests, w) in let k : true ≡ false = sym e ∙ kept.first n y t large in cc
    ]
