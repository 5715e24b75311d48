-- Lines that are too long.
use Rattle.std.proofs.Common.{◌≡◌, ◌<◌, ◌∷◌, ◌++◌, append-nil, [], List, ℕ, false, arith, length, refl}
use Rattle.reg_terms.specs.Limits.{max_line}
use Rattle.reg_session.specs.Lines.{is_skipped}

-- such a line isn't skipped
pub long_asks : (line : List ℕ) → max_line < length line → false ≡ is_skipped line
long_asks [] h = absurd (omega arith)
long_asks (b ∷ []) h = absurd (omega arith)
long_asks (b ∷ c ∷ rest) h = refl

-- bytes and further bytes are not skipped
pub longer_asks : (xs ys : List ℕ) → 0 < length xs → 0 < length ys → is_skipped (xs ++ ys) ≡ false
longer_asks [] ys h k = absurd (omega arith)
longer_asks (a ∷ xs) [] h k = absurd (omega arith)
longer_asks (a ∷ []) (b ∷ ys) h k = refl
longer_asks (a ∷ c ∷ xs) (b ∷ ys) h k = refl

-- no further bytes change nothing
pub nothing_more : (line more : List ℕ) → length more ≡ 0 → line ++ more ≡ line
nothing_more line [] e = append-nil line
nothing_more line (b ∷ more) e = absurd (omega arith)
