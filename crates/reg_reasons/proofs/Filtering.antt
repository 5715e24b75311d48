-- The rows that pass two tests.
use Rattle.std.proofs.Common.{◌≡◌, ◌<◌, ◌+◌, ℕ, ◌&&◌, List, [], ◌∷◌, ◌++◌, Bool, true, false, inl, inr, sym, ◌∙◌, ap, length, drop, get_or, filter}
use Rattle.std.proofs.lemmas.Bool.{cases_Bool, and_parts}
use Rattle.std.proofs.lemmas.List.{at_drop_more, append_assoc}

module _ {X : Type 0} (p q : X → Bool) (xs : List X) (i : ℕ) (x : X) (found whole : List X) (h : i < length xs) (is : x ≡ get_or xs i x) (so_far : found ++ filter p (filter q (drop i xs)) ≡ whole) where
  pub next_one : found ++ filter p (filter q (x ∷ drop (i + 1) xs)) ≡ whole
  next_one =
      let e : found ++ filter p (filter q (drop i xs)) ≡ found ++ filter p (filter q (get_or xs i x ∷ drop (i + 1) xs)) = at_drop_more (λ ys. found ++ filter p (filter q ys)) xs i x h in
      ap (λ (y : X). found ++ filter p (filter q (y ∷ drop (i + 1) xs))) is ∙ (sym e ∙ so_far)

  pub kept_one : (q x && p x) ≡ true → (found ++ x ∷ []) ++ filter p (filter q (drop (i + 1) xs)) ≡ whole
  kept_one t =
      let w = and_parts (q x) (p x) t in
      append_assoc found (x ∷ []) (filter p (filter q (drop (i + 1) xs))) ∙ rw (w.0, w.1) at next_one

  pub passed_one : (q x && p x) ≡ false → found ++ filter p (filter q (drop (i + 1) xs)) ≡ whole
  passed_one f = elim (cases_Bool (q x)) [
    | inl t ↦ let n : p x ≡ false = rw t at f in rw (t, n) at next_one
    | inr n ↦ rw n at next_one
  ]
