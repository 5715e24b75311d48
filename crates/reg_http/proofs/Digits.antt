-- Nineteen digits fit.
use Rattle.std.proofs.Common.{◌≡◌, ℕ, ◌+◌, ◌*◌, ◌^◌, ◌<◌, ◌≤◌, arith, add-one, ap, ◌∙◌, lit<}
use Rattle.std.proofs.Math.Nat.{pow-suc, pow-le-pow_right}

pub next_small : (i number digit : ℕ) → number < 10 ^ i → digit < 10 → number * 10 + digit < 10 ^ (i + 1)
next_small i number digit small below =
    let next : 10 ^ (i + 1) ≡ 10 ^ i * 10 = ap (λ k. 10 ^ k) (add-one i) ∙ pow-suc 10 i in
    omega (arith, next)

pub next_fits : (i number digit : ℕ) → number < 10 ^ i → digit < 10 → i < 19 → number * 10 + digit < 2 ^ 64
next_fits i number digit small below early =
    let bound : 10 ^ (i + 1) ≤ 10 ^ 19 = pow-le-pow_right (lit< tt) {i = i + 1} {j = 19} (omega arith) in
    omega (arith, next_small i number digit small below, bound)
