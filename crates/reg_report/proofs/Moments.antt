-- The text of a moment is UTF-8.
use Rattle.std.proofs.Common.{◌≡◌, ◌+◌, ◌%◌, ℕ, List, [], ◌∷◌, true, nat_lt, arith}
use Rattle.std.specs.List.{list_all}
use Rattle.std.specs.Str.{IsAscii, IsUtf8}
use Rattle.std.proofs.lemmas.Bool.{and_parts, ltb-true}
use Rattle.std.proofs.lemmas.Bool.Decides.{nat_tests}
use Rattle.std.proofs.lemmas.Str.{IsUtf8-from_ascii}
use Rattle.std.proofs.lemmas.Str.Ascii.{IsAscii-nil, IsAscii-cons}
use Rattle.reg_base.specs.MomentText.{stamp, text_of}

-- bytes below 128 are ASCII
bytes_ascii : (text : List ℕ) → list_all (λ b. nat_lt b 128) text ≡ true → IsAscii text
bytes_ascii [] h = IsAscii-nil
bytes_ascii (b ∷ text) h = let both = and_parts _ _ h in IsAscii-cons b text (ltb-true _ _ both.0) (bytes_ascii text both.1)

digit_low : (n : ℕ) → nat_lt (48 + n % 10) 128 ≡ true
digit_low n = grind (arith, nat_tests)

printed_low : (moment : ℕ) → list_all (λ b. nat_lt b 128) (text_of moment) ≡ true
unfolding text_of stamp
printed_low moment = simp digit_low

pub text_utf8 : (moment : ℕ) → IsUtf8 (text_of moment)
text_utf8 moment = IsUtf8-from_ascii (text_of moment) (bytes_ascii (text_of moment) (printed_low moment))
