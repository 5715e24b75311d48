-- The first of some ways.
use Rattle.std.proofs.Common.{◌≡◌, ◌<◌, ◌≤◌, ◌+◌, ℕ, zero, suc, List, [], ◌∷◌, ◌++◌, arith, refl, sym, ◌∙◌, ap, length, take, get_or}
use Rattle.std.specs.Prelude.{None, Some, slice_get}
use Rattle.std.proofs.lemmas.List.{take_more, take_all, append_assoc, length-append, append-nil}
use Rattle.std.proofs.lemmas.Option.{slice_get_within, get_or_from_slice_get}
use Rattle.std.proofs.Math.Seq.{take-append-add}

-- the first k of some ways stand behind others
pub record Listed {X : Type 0} (old all now : List X) (k : ℕ) : Type 0 where
  pub are : now ≡ old ++ take k all
  pub within : k ≤ length all

module _ {X : Type 0} (old all now : List X) (k : ℕ) (l : Listed old all now k) where
  pub listed_more : (x : X) → Some x ≡ slice_get all k → Listed old all (now ++ x ∷ []) (k + 1)
  listed_more x e =
      let low : k < length all = slice_get_within all k x (sym e) in
      let at : get_or all k x ≡ x = get_or_from_slice_get all k x x (sym e) in
      let more : take (k + 1) all ≡ take k all ++ x ∷ [] = take_more all k x low ∙ ap (λ (y : X). take k all ++ y ∷ []) at in
      record {
        are = ap (λ (xs : List X). xs ++ x ∷ []) l.are ∙ (append_assoc old (take k all) (x ∷ []) ∙ sym (ap (λ (xs : List X). old ++ xs) more));
        within = omega (arith, low);
      }

  pub listed_all : (most : ℕ) → None ≡ slice_get all k → length old + k ≤ most → now ≡ take most (old ++ all)
  listed_all most e b =
      let end : length all ≤ k = past all k (sym e) in
      let whole : take k all ≡ all = take_all k all end in
      let n = length-append old all in
      l.are ∙ (ap (λ (xs : List X). old ++ xs) whole ∙ sym (take_all most (old ++ all) (omega (arith, n, end, b))))
    where
      past : (xs : List X) (i : ℕ) → slice_get xs i ≡ None → length xs ≤ i
      past [] i e = omega arith
      past (x ∷ xs) zero e = cc
      past (x ∷ xs) (suc i) e = let r = past xs i e in omega (arith, r)

  pub listed_most : (most : ℕ) → length old + k ≡ most → now ≡ take most (old ++ all)
  listed_most most e = l.are ∙ (sym (take-append-add old all k) ∙ ap (λ n. take n (old ++ all)) e)

pub listed_none : {X : Type 0} (old all : List X) → Listed old all old 0
listed_none old all = record { are = sym (append-nil old); within = omega arith }

pub take_again : {X : Type 0} (most : ℕ) (xs ys : List X) → take most (take most xs ++ ys) ≡ take most (xs ++ ys)
take_again zero xs ys = refl
take_again (suc n) [] ys = refl
take_again {X = X} (suc n) (x ∷ xs) ys = ap (λ (zs : List X). x ∷ zs) (take_again n xs ys)
