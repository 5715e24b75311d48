-- Pairs of numbers as keys of a set.
use Rattle.std.proofs.Common.{◌≡◌, ◌==◌, ◌&&◌, ◌||◌, ℕ, List, [], ◌∷◌, Bool, true, false, cond, not, arith, refl, sym, ◌∙◌}
use Rattle.std.proofs.lemmas.Bool.Decides.{nat_tests}
use Rattle.std.proofs.lemmas.Grind.{common_steps}
use Rattle.std.specs.List.{list_any}
use Rattle.std.specs.Ordering.{nat_cmp, ordering_then, eq_by_cmp}
use Rattle.std.specs.declared.cmp.Ordering.{Ordering}
use Rattle.reg_prov.specs.Targets.{holds}

-- by the first, and then by the second
abbrev pub pair_cmp : ℕ × ℕ → ℕ × ℕ → Ordering
pair_cmp a b = ordering_then (nat_cmp a.0 b.0) (nat_cmp a.1 b.1)

same_pair : (a b x y : ℕ) → eq_by_cmp pair_cmp (a, b) (x, y) ≡ ((a == x) && (b == y))
same_pair a b x y = grind (arith, nat_tests, common_steps)

turned_pair : (a b x y : ℕ) → eq_by_cmp pair_cmp (a, b) (x, y) ≡ ((x == a) && (y == b))
turned_pair a b x y = grind (arith, nat_tests, common_steps)

holds_is : (g s : ℕ) (pairs : List (ℕ × ℕ)) → list_any (eq_by_cmp pair_cmp (g, s)) pairs ≡ holds pairs g s
holds_is g s [] = refl
holds_is g s ((x, y) ∷ pairs) = rw (turned_pair g s x y, holds_is g s pairs) refl

cond_or : (b x : Bool) → cond b true x ≡ (b || x)
cond_or true x = refl
cond_or false x = refl

cond_and : (b x : Bool) → cond b false x ≡ (not b && x)
cond_and true x = refl
cond_and false x = refl

module _ (a b : ℕ) (old new : List (ℕ × ℕ)) where
  pub pair_added : ((q : ℕ × ℕ) → list_any (eq_by_cmp pair_cmp q) new ≡ cond (eq_by_cmp pair_cmp (a, b) q) true (list_any (eq_by_cmp pair_cmp q) old)) → (g s : ℕ) → holds new g s ≡ (((a == g) && (b == s)) || holds old g s)
  pair_added more g s = sym (holds_is g s new) ∙ (more (g, s) ∙ (rw (same_pair a b g s, holds_is g s old) (cond_or ((a == g) && (b == s)) (holds old g s))))

  pub pair_removed : ((q : ℕ × ℕ) → list_any (eq_by_cmp pair_cmp q) new ≡ cond (eq_by_cmp pair_cmp (a, b) q) false (list_any (eq_by_cmp pair_cmp q) old)) → (g s : ℕ) → holds new g s ≡ (not ((a == g) && (b == s)) && holds old g s)
  pair_removed less g s = sym (holds_is g s new) ∙ (less (g, s) ∙ (rw (same_pair a b g s, holds_is g s old) (cond_and ((a == g) && (b == s)) (holds old g s))))
