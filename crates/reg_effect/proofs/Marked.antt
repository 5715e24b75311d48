-- Pairs of an ordered set that another one lacks.
use Rattle.std.proofs.Common.{◌≡◌, ◌==◌, ◌&&◌, ◌||◌, ℕ, List, [], ◌∷◌, ◌++◌, Bool, true, false, cond, map, filter, Bor, refl, sym, ◌∙◌, ap}
use Rattle.std.proofs.lemmas.Bool.{eqb-true, eq-eqb, and_parts, and_from}
use Rattle.std.proofs.lemmas.List.{map-append}
use Rattle.std.proofs.lemmas.List.Elements.{filter-append}
use Rattle.std.specs.Bool.{Decides}
use Rattle.std.specs.Map.Iter.{deref}
use Rattle.std.specs.Ordering.{eq_by_cmp}
use Rattle.std.specs.Set.{IsUnion}
use Rattle.reg_graph.specs.Sets.{holds, pair_cmp}
use Rattle.reg_graph.proofs.Kept.{holds_is}

pub pair_decides : (a b : ℕ × ℕ) → Decides ((a.0 == b.0) && (a.1 == b.1)) (a ≡ b)
pair_decides (a, s) (b, t) = (
  (λ h. let w = and_parts (a == b) (s == t) h in rw (eqb-true a b w.0, eqb-true s t w.1) refl),
  (λ e. and_from _ _ (eq-eqb a b (ap (λ (p : ℕ × ℕ). p.0) e)) (eq-eqb s t (ap (λ (p : ℕ × ℕ). p.1) e))),
)

-- one more is looked at
pub kept_one : (keep : ℕ × ℕ → Bool) (bs : List (Bor (ℕ × ℕ))) (b : Bor (ℕ × ℕ)) → filter keep (map deref (bs ++ b ∷ [])) ≡ filter keep (map deref bs) ++ cond (keep b.now) (b.now ∷ []) []
kept_one keep bs b = ap (filter keep) (map-append deref bs (b ∷ [])) ∙ filter-append keep (map deref bs) (b.now ∷ [])

pub kept_more : (keep : ℕ × ℕ → Bool) (bs : List (Bor (ℕ × ℕ))) (b : Bor (ℕ × ℕ)) (out new : List (ℕ × ℕ)) (x y : ℕ) → out ≡ filter keep (map deref bs) → new ≡ out ++ (x, y) ∷ [] → x ≡ b.now.0 → y ≡ b.now.1 → keep b.now ≡ true → new ≡ filter keep (map deref (bs ++ b ∷ []))
kept_more keep bs b out new x y e n i j t = n ∙ sym (kept_one keep bs b ∙ rw (t, ← e, ← i, ← j) refl)

pub append_none : (xs : List (ℕ × ℕ)) → xs ++ [] ≡ xs
append_none [] = refl
append_none (x ∷ xs) = ap (λ ys. x ∷ ys) (append_none xs)

pub kept_less : (keep : ℕ × ℕ → Bool) (bs : List (Bor (ℕ × ℕ))) (b : Bor (ℕ × ℕ)) (out : List (ℕ × ℕ)) → out ≡ filter keep (map deref bs) → keep b.now ≡ false → out ≡ filter keep (map deref (bs ++ b ∷ []))
kept_less keep bs b out e f = sym (kept_one keep bs b ∙ rw (f, ← e) (append_none out))

-- what is in one of two sets
pub either_has : (xs ys zs : List (ℕ × ℕ)) → IsUnion (eq_by_cmp pair_cmp) xs ys zs → (x y : ℕ) → holds x y zs ≡ (holds x y xs || holds x y ys)
either_has xs ys zs h x y = sym (holds_is x y zs) ∙ (h (x, y) ∙ rw (holds_is x y xs, holds_is x y ys) refl)
