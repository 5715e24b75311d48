-- What a target tells, and which route it has, by whether its bytes are UTF-8.
use Rattle.std.proofs.Common.{◌≡◌, ℕ, List, true, false, Bool, refl, cond}
use Rattle.std.specs.Str.{IsUtf8, is_utf8}
use Rattle.std.proofs.lemmas.Str.{IsUtf8-from_is_utf8, is_utf8-from_IsUtf8}

-- a value that is one thing where bytes are UTF-8, and else another
pub by_utf8 : {A : Type 0} (bytes : List ℕ) (x one two : A) → (IsUtf8 bytes → x ≡ one) → (¬ (IsUtf8 bytes) → x ≡ two) → x ≡ cond (is_utf8 bytes) one two
by_utf8 bytes x one two yes_is no_is = go (is_utf8 bytes) refl
  where
    go : (b : Bool) → is_utf8 bytes ≡ b → x ≡ cond b one two
    go true e = yes_is (IsUtf8-from_is_utf8 bytes e)
    go false e = no_is (λ u. let t = is_utf8-from_IsUtf8 bytes u in absurd (cc))
