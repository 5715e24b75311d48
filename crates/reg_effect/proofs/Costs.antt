-- What the walk costs.
use Rattle.std.proofs.Common.{◌≡◌, ◌≤◌, ◌+◌, ◌*◌, ℕ, List, [], ◌∷◌, Bool, filter, arith, refl}
use Rattle.std.proofs.lemmas.Grind.{common_steps}
use Rattle.std.proofs.Math.Nat.{mul-le-mul}

pub cost_walk : (s t b d k m : ℕ) → s + d * (k + m) ≤ b → t ≤ s + d * k → t + d * m ≤ b
cost_walk s t b d k m p q = grind (arith, common_steps)

pub cost_end : (t b d e m : ℕ) → t + d * 0 ≤ b + d * m → d ≤ e → t ≤ b + e * m
cost_end t b d e m p q = grind (arith, common_steps)

pub cost_bound : (t b d m n : ℕ) → t ≤ b + d * m → m ≤ n → t ≤ b + d * n
cost_bound t b d m n p q = let le : d * m ≤ d * n = mul-le-mul (omega arith) q in omega (arith, p, le)

pub filter_same_tests : (p r : ℕ → Bool) → ((q : ℕ) → p q ≡ r q) → (xs : List ℕ) → filter p xs ≡ filter r xs
filter_same_tests p r h [] = refl
filter_same_tests p r h (x ∷ xs) = rw (h x, filter_same_tests p r h xs) refl
