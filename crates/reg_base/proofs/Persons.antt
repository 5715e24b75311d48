-- The texts of persons and names are ASCII, so UTF-8.
use Rattle.std.proofs.Common.{length, cond, ◌≡◌, ℕ, ◌+◌, ◌-◌, ◌<◌, Bool, true, false, nat_eq, List, [], ◌∷◌, Option, Some, None, take, drop, get_or, inl, inr, refl, sym, arith}
use Rattle.std.specs.List.{onto_first, list_all, position}
use Rattle.std.specs.Str.{IsAscii, IsUtf8}
use Rattle.std.proofs.lemmas.Bool.{and_from, cases_lt, and_parts, false≢true}
use Rattle.std.proofs.lemmas.Bool.Decides.{nat_tests}
use Rattle.std.proofs.lemmas.List.{get_or-take, get_or-drop}
use Rattle.std.proofs.lemmas.List.Splits.{length-slice_split}
use Rattle.std.proofs.lemmas.List.Quantifiers.{position-Some}
use Rattle.std.proofs.lemmas.Str.{IsUtf8-from_ascii}
use Rattle.std.proofs.lemmas.Str.Ascii.{IsAscii-nil, IsAscii-cons}
use Rattle.reg_base.specs.Names.{is_extension_byte, is_extension, extensions_of, is_colon, is_name, is_person_byte, is_part, is_person_at, is_person}

byte_ascii : (b : ℕ) → is_person_byte b ≡ true → b < 128
byte_ascii b h = grind (arith, nat_tests)

bytes_ascii : (text : List ℕ) → list_all is_person_byte text ≡ true → IsAscii text
bytes_ascii [] h = IsAscii-nil
bytes_ascii (b ∷ text) h = let both = and_parts _ _ h in IsAscii-cons b text (byte_ascii b both.0) (bytes_ascii text both.1)

part_ascii : (limit : ℕ) (text : List ℕ) → is_part limit text ≡ true → IsAscii text
part_ascii limit text h = bytes_ascii text (and_parts _ _ h).1

-- a text is ASCII where what stands before a place, at it and after it is
split_ascii : (text : List ℕ) (place : ℕ) → get_or text place 0 < 128 → IsAscii (take place text) → IsAscii (drop (place + 1) text) → IsAscii text
split_ascii text place slash source id i =
    elim (cases_lt i place) [
      | inl before ↦ omega (arith, source i, get_or-take place text i 0 before)
      | inr from ↦ elim (cases_lt place i) [
        | inl after ↦ let same : place + 1 + (i - (place + 1)) ≡ i = omega arith in
            omega (arith, id (i - (place + 1)), rw same at (get_or-drop (place + 1) text (i - (place + 1)) 0))
        | inr upto ↦ let same : i ≡ place = omega arith in rw same slash
      ]
    ]

at_ascii : (text : List ℕ) (found : Option ℕ) → position (λ b. nat_eq b 47) text ≡ found → is_person_at text found ≡ true → IsAscii text
at_ascii text None at h = absurd (false≢true h)
at_ascii text (Some place) at h =
    let both = and_parts _ _ h in
    let slash = position-Some (λ b. nat_eq b 47) text place 0 at in
    split_ascii text place (grind (arith, nat_tests)) (part_ascii 32 _ both.0) (part_ascii 64 _ both.1)

-- so a person's text is UTF-8
pub person_utf8 : (text : List ℕ) → is_person text ≡ true → IsUtf8 text
person_utf8 text h = IsUtf8-from_ascii text (at_ascii text _ refl h)

extension_ascii : (b : ℕ) → is_extension_byte b ≡ true → b < 128
extension_ascii b h = grind (arith, nat_tests)

-- every piece holds bytes of extensions alone
pieces_of_bytes : (pieces : List (List ℕ)) → list_all is_extension pieces ≡ true → list_all (list_all is_extension_byte) pieces ≡ true
pieces_of_bytes [] h = refl
pieces_of_bytes (piece ∷ more) h =
    let both = and_parts _ _ h in
    and_from _ _ (and_parts _ _ both.0).1 (pieces_of_bytes more both.1)

first_ascii : (x : ℕ) (pieces : List (List ℕ)) → 0 < length pieces → list_all (list_all is_extension_byte) (onto_first x pieces) ≡ true → (x < 128) × (list_all (list_all is_extension_byte) pieces ≡ true)
first_ascii x [] some h = absurd (omega arith)
first_ascii x (piece ∷ more) some h =
    let both = and_parts _ _ h in
    let first = and_parts _ _ both.0 in
    (extension_ascii x first.0, and_from _ _ first.1 both.1)

byte_of_pieces : (test : Bool) (x : ℕ) (pieces : List (List ℕ)) → is_colon x ≡ test → 0 < length pieces → list_all (list_all is_extension_byte) (cond test ([] ∷ pieces) (onto_first x pieces)) ≡ true → (x < 128) × (list_all (list_all is_extension_byte) pieces ≡ true)
byte_of_pieces true x pieces colon some h = (grind (arith, nat_tests), h)
byte_of_pieces false x pieces colon some h = first_ascii x pieces some h

pieces_ascii : (text : List ℕ) → list_all (list_all is_extension_byte) (extensions_of text) ≡ true → IsAscii text
pieces_ascii [] h = IsAscii-nil
pieces_ascii (b ∷ text) h =
    let parts = byte_of_pieces (is_colon b) b (extensions_of text) refl (omega (arith, length-slice_split is_colon text)) h in
    IsAscii-cons b text parts.0 (pieces_ascii text parts.1)

-- so a name is UTF-8
pub name_utf8 : (text : List ℕ) → is_name text ≡ true → IsUtf8 text
name_utf8 text h = IsUtf8-from_ascii text (pieces_ascii text (pieces_of_bytes (extensions_of text) (and_parts _ _ h).1))
