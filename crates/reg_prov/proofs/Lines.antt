-- The moments of the entries of a log, one entry after another.
use Rattle.std.proofs.Common.{◌≡◌, ◌+◌, ◌≤◌, ◌<◌, ℕ, zero, suc, List, [], ◌∷◌, ◌++◌, Some, None, length, map, take, arith, refl, sym, ap, subst}
use Rattle.std.proofs.lemmas.Option.{same_Some}
use Rattle.reg_log.specs.declared.entries.Line.{Line}
use Rattle.reg_log.specs.Numbering.{moment_of}

abbrev pub moment : Line → ℕ
moment line = line.at

more : (lines : List Line) (n m : ℕ) → Some m ≡ moment_of (suc n) lines → map moment (take n lines) ++ m ∷ [] ≡ map moment (take (suc n) lines)
more [] n m e = absurd (cc)
more (line ∷ lines) zero m e = let same : m ≡ line.at = same_Some m line.at e in rw same refl
more (line ∷ lines) (suc n) m e = ap (λ (ms : List ℕ). line.at ∷ ms) (more lines n m e)

past_last : (lines : List Line) (n : ℕ) → None ≡ moment_of (suc n) lines → length lines ≤ n
past_last [] n e = omega arith
past_last (line ∷ lines) zero e = absurd (cc)
past_last (line ∷ lines) (suc n) e = let rest = past_last lines n e in omega (arith, rest)

whole : (lines : List Line) (n : ℕ) → length lines ≤ n → take n lines ≡ lines
whole [] zero w = refl
whole [] (suc n) w = refl
whole (line ∷ lines) zero w = absurd (omega (arith, w))
whole (line ∷ lines) (suc n) w = ap (λ (ls : List Line). line ∷ ls) (whole lines n (omega (arith, w)))

module _ (lines : List Line) (n : ℕ) where
  next : suc n ≡ n + 1
  next = omega arith

  pub moment_added : (m : ℕ) → Some m ≡ moment_of (n + 1) lines → map moment (take n lines) ++ m ∷ [] ≡ map moment (take (n + 1) lines)
  moment_added m = subst (λ (k : ℕ). Some m ≡ moment_of k lines → map moment (take n lines) ++ m ∷ [] ≡ map moment (take k lines)) next (more lines n m)

  pub never_past : n < length lines → None ≡ moment_of (n + 1) lines → ⊥
  never_past w e = let past : length lines ≤ n = past_last lines n (subst (λ (k : ℕ). None ≡ moment_of k lines) (sym next) e) in omega (arith, w, past)

  pub all_moments : length lines ≤ n → map moment (take n lines) ≡ map moment lines
  all_moments w = ap (map moment) (whole lines n w)

-- a log has as many moments as entries
long : (lines : List Line) → length (map moment lines) ≡ length lines
long [] = refl
long (line ∷ lines) = ap suc (long lines)

pub as_long : (lines : List Line) (place end : ℕ) → (place ≤ length (map moment lines) → end ≤ length (map moment lines)) → place ≤ length lines → end ≤ length lines
as_long lines place end h w =
    let same : length (map moment lines) ≡ length lines = long lines in
    let low : place ≤ length (map moment lines) = omega (arith, same, w) in
    let high : end ≤ length (map moment lines) = h low in
    omega (arith, same, high)
