-- Which texts of fields are UTF-8: extensions, sources and folders' names are ASCII, and of displays it is asked.
use Rattle.std.proofs.Common.{length, ◌≡◌, ℕ, ◌+◌, ◌<◌, ◌≤◌, Bool, true, false, List, [], ◌∷◌, Option, Some, None, take, drop, inl, inr, arith, lit<, lit≤, nat_eq}
use Rattle.std.specs.List.{list_all, position}
use Rattle.std.specs.Str.{IsAscii, IsUtf8}
use Rattle.std.proofs.lemmas.Bool.{and_parts, and_from, and_right, or_cases, false_from_ne_true, false≢true, leb-true, le-leb}
use Rattle.std.proofs.lemmas.List.{length-take, length-drop}
use Rattle.std.proofs.lemmas.Bool.Decides.{nat_tests}
use Rattle.std.proofs.lemmas.Slice.Eq.{bytes_eq-Decides}
use Rattle.std.proofs.lemmas.Str.{IsUtf8-from_ascii, IsUtf8-from_is_utf8, is_utf8-from_IsUtf8}
use Rattle.std.proofs.lemmas.Str.Ascii.{IsAscii-nil, IsAscii-cons}
use Rattle.reg_base.specs.Names.{is_extension_byte, is_extension, is_name, is_person_byte, is_part, is_person_at, is_person, is_source}
use Rattle.reg_base.proofs.Persons.{name_utf8}
use Rattle.reg_ops.specs.Forms.{is_folder_text, is_display}
use Rattle.reg_terms.specs.Limits.{max_display}

bytes_ascii : (test : ℕ → Bool) → ((b : ℕ) → test b ≡ true → b < 128) → (text : List ℕ) → list_all test text ≡ true → IsAscii text
bytes_ascii test below [] h = IsAscii-nil
bytes_ascii test below (b ∷ text) h =
    let both = and_parts (test b) (list_all test text) h in
    IsAscii-cons b text (below b both.0) (bytes_ascii test below text both.1)

-- a text is UTF-8 where each of its bytes passes a test that only ASCII passes
pub bytes_utf8 : (test : ℕ → Bool) → ((b : ℕ) → test b ≡ true → b < 128) → (text : List ℕ) → list_all test text ≡ true → IsUtf8 text
bytes_utf8 test below text h = IsUtf8-from_ascii text (bytes_ascii test below text h)

extension_byte : (b : ℕ) → is_extension_byte b ≡ true → b < 128
extension_byte b h = grind (arith, nat_tests)

person_byte : (b : ℕ) → is_person_byte b ≡ true → b < 128
person_byte b h = grind (arith, nat_tests)

-- an extension is UTF-8
pub extension_utf8 : (text : List ℕ) → is_extension text ≡ true → IsUtf8 text
extension_utf8 text h = bytes_utf8 is_extension_byte extension_byte text (and_parts _ _ h).1

-- so is a source
pub source_utf8 : (text : List ℕ) → is_source text ≡ true → IsUtf8 text
source_utf8 text h = bytes_utf8 is_person_byte person_byte text (and_parts _ _ h).1

root_utf8 : IsUtf8 (58 ∷ [])
root_utf8 = IsUtf8-from_ascii (58 ∷ []) (IsAscii-cons 58 [] (lit< tt) IsAscii-nil)

-- and so is a folder's name
pub folder_utf8 : (text : List ℕ) → is_folder_text text ≡ true → IsUtf8 text
folder_utf8 text h = elim (or_cases _ _ h) [
  | inl root ↦ let same = (bytes_eq-Decides text (58 ∷ [])).0 root in rw same root_utf8
  | inr named ↦ name_utf8 text named
]

-- a short text of UTF-8 is a display
pub display_is : (text : List ℕ) → length text ≤ max_display → IsUtf8 text → is_display text ≡ true
display_is text short utf8 = and_from _ _ (le-leb _ _ short) (is_utf8-from_IsUtf8 text utf8)

-- and what isn't UTF-8 is none
pub display_isnt : (text : List ℕ) → (IsUtf8 text → ⊥) → is_display text ≡ false
display_isnt text never = and_right _ _ (false_from_ne_true _ (λ h. never (IsUtf8-from_is_utf8 text h)))

-- every text of a field has a length of two bytes
pub name_short : (text : List ℕ) → is_name text ≡ true → length text ≤ 1000
name_short text h = leb-true _ _ (and_parts _ _ h).0

pub extension_short : (text : List ℕ) → is_extension text ≡ true → length text ≤ 1000
extension_short text h =
    let few : length text ≤ 100 = leb-true _ _ (and_parts _ _ (and_parts _ _ h).0).1 in
    omega arith

pub folder_short : (text : List ℕ) → is_folder_text text ≡ true → length text ≤ 1000
folder_short text h = elim (or_cases _ _ h) [
  | inl root ↦ let same = (bytes_eq-Decides text (58 ∷ [])).0 root in rw same (lit≤ tt)
  | inr named ↦ name_short text named
]

pub display_short : (text : List ℕ) → is_display text ≡ true → length text ≤ 1000
display_short text h =
    let few : length text ≤ max_display = leb-true _ _ (and_parts _ _ h).0 in
    omega arith

part_short : (limit : ℕ) (text : List ℕ) → is_part limit text ≡ true → length text ≤ limit
part_short limit text h = leb-true _ _ (and_parts _ _ (and_parts _ _ h).0).1

person_at_brief : (text : List ℕ) (found : Option ℕ) → is_person_at text found ≡ true → length text ≤ 97
person_at_brief text None h = absurd (false≢true h)
person_at_brief text (Some place) h =
    let both = and_parts _ _ h in
    omega (arith, part_short 32 (take place text) both.0, part_short 64 (drop (place + 1) text) both.1, length-take place text, length-drop (place + 1) text)

pub source_short : (text : List ℕ) → is_source text ≡ true → length text ≤ 1000
source_short text h = omega (arith, part_short 32 text h)

-- a person's has at most 97 bytes
pub person_brief : (text : List ℕ) → is_person text ≡ true → length text ≤ 97
person_brief text h = person_at_brief text (position (λ b. nat_eq b 47) text) h

pub person_short : (text : List ℕ) → is_person text ≡ true → length text ≤ 1000
person_short text h = omega (arith, person_brief text h)
