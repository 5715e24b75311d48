-- Rows of persons as pairs in a set.
use Rattle.std.proofs.Common.{◌≡◌, ◌&&◌, ◌||◌, ◌==◌, ℕ, List, Bool, true, false, cond, arith, refl, ◌∙◌}
use Rattle.std.proofs.lemmas.Grind.{common_steps}
use Rattle.std.proofs.lemmas.Bool.Decides.{nat_tests}
use Rattle.std.specs.List.{list_any}
use Rattle.reg_load.specs.Sets.{in_pairs}

-- the two pairs are one
abbrev pub same_pair : ℕ × ℕ → ℕ × ℕ → Bool
same_pair a b = (a.0 == b.0) && (a.1 == b.1)

turned : (g s x y : ℕ) → same_pair (g, s) (x, y) ≡ ((x == g) && (y == s))
turned g s x y = grind (arith, nat_tests, common_steps)

pub added_pair : (g s : ℕ) (old new : List (ℕ × ℕ)) → ((q : ℕ × ℕ) → list_any (same_pair q) new ≡ cond (same_pair (g, s) q) true (list_any (same_pair q) old)) → (x y : ℕ) → in_pairs x y new ≡ (((x == g) && (y == s)) || in_pairs x y old)
added_pair g s old new h x y = h (x, y) ∙ rw (turned g s x y) (elim ((x == g) && (y == s)) as (λ b. cond b true (in_pairs x y old) ≡ (b || in_pairs x y old)) [ true ↦ refl | false ↦ refl ])
