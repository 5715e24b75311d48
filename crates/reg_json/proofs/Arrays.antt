-- Texts that need no escape, written at places of one buffer.
use Rattle.std.proofs.Common.{◌≡◌, ℕ, ◌+◌, ◌*◌, ◌≤◌, Bool, true, false, List, [], ◌∷◌, ◌++◌, length, take, drop, codes, refl, ap, sym, ◌∙◌, arith, lit≤, ◌||◌, ◌==◌, ltb, append_assoc, length-append, length-take-le, take-take, take-add, take_at, drop_at}
use Rattle.std.specs.List.{concat, list_all}
use Rattle.std.proofs.lemmas.Bool.{and_parts, or_parts, not-true, eqb-false, ltb-false}
use Rattle.std.proofs.lemmas.List.Folds.{list_all-append}
use Rattle.json.specs.Print.{escape_byte, escape, quoted}
use Rattle.reg_json.specs.Arrays.{is_plain, Placed}
use Rattle.json.proofs.Printed.Strings.{escape_byte_plain}
use Rattle.serde_json.specs.Data.{array}
use Rattle.serde_json.specs.Written.{comma_if, compact_text, items_text}
use Rattle.reg_terms.specs.declared.query.Answer.TheVariants as answer
use Rattle.reg_json.specs.Replies.{strings, answer_data}

-- a text whose bytes stand for themselves is printed as it is
escape_plain : (text : List ℕ) → list_all is_plain text ≡ true → escape text ≡ text
escape_plain [] h = refl
escape_plain (b ∷ text) h =
    let both = and_parts _ _ h in
    let none = or_parts _ _ (not-true ((b == 34) || (b == 92) || ltb b 32) both.0) in
    let tests = or_parts (b == 34) _ none.0 in
    λ i. escape_byte_plain b (eqb-false b 34 tests.0) (eqb-false b 92 tests.1) (ltb-false b 32 none.1) i ++ escape_plain text both.1 i

pub comma_short : (later : Bool) → length (comma_if later) ≤ 1
comma_short true = lit≤ tt
comma_short false = lit≤ tt

-- only the first n bytes of a write are kept
pub placed_less : {a b xs : List ℕ} {i j : ℕ} (n : ℕ) → i ≤ length a → n ≤ length xs → Placed a b i xs j → Placed a b i (take n xs) (i + n)
placed_less {a} {b} {xs} {i} {j} n within few p =
    let front = length-take-le i a within in
    record {
      front = sym (take-take (i + n) j b (omega (arith, p.moved))) ∙ ap (take (i + n)) p.front ∙ take-add i n (take i a ++ xs)
          ∙ (λ k. take_at (take i a) xs i front k ++ take n (drop_at (take i a) xs i front k));
      moved = omega (arith, length-take-le n xs few);
      len = p.len;
    }

-- a text and those behind it, once it is written in quotes
pub item_written : {b c : List ℕ} {at end : ℕ} (later : Bool) (text : List ℕ) (texts : List (List ℕ)) → list_all is_plain text ≡ true → Placed b c at (comma_if later ++ 34 ∷ (text ++ 34 ∷ [])) end → take end c ++ items_text true (strings texts) ≡ take at b ++ items_text later (strings (text ∷ texts))
item_written {b} {c} {at} {end} later text texts plain p =
    let others = items_text true (strings texts) in
    let quotes : comma_if later ++ 34 ∷ (text ++ 34 ∷ []) ≡ comma_if later ++ quoted text = ap (λ (t : List ℕ). comma_if later ++ 34 ∷ (t ++ 34 ∷ [])) (sym (escape_plain text plain)) in
    ap (λ (l : List ℕ). l ++ others) (p.front ∙ ap (λ (l : List ℕ). take at b ++ l) quotes)
    ∙ append_assoc (take at b) (comma_if later ++ quoted text) others
    ∙ ap (λ (l : List ℕ). take at b ++ l) (append_assoc (comma_if later) (quoted text) others)

-- the texts `texts` of an array are written from `start` on: `pieces` of them are to come, and stand in `rest`
abbrev pub AreComing : (a b : List ℕ) (start at : ℕ) (later : Bool) (rest : List ℕ) (pieces texts : List (List ℕ)) → Type 0
AreComing a b start at later rest pieces texts =
    (rest ≡ concat pieces) × (list_all is_plain (concat pieces) ≡ true)
    × (at + length (concat pieces) + 3 * length pieces + 17 ≤ length b) × (length b ≡ length a)
    × (take at b ++ items_text later (strings pieces) ≡ take start a ++ items_text false (strings texts))

pub item_step : (a b c : List ℕ) (start at end : ℕ) (later : Bool) (rest back text : List ℕ) (more texts : List (List ℕ)) → AreComing a b start at later rest (text ∷ more) texts → back ≡ drop (length text) rest → Placed b c at (comma_if later ++ 34 ∷ (take (length text) rest ++ 34 ∷ [])) end → AreComing a c start end true back more texts
item_step a b c start at end later rest back text more texts coming back_is placed =
    let first : take (length text) rest ≡ text = ap (take (length text)) coming.0 ∙ take_at text (concat more) (length text) refl in
    let others : back ≡ concat more = back_is ∙ ap (drop (length text)) coming.0 ∙ drop_at text (concat more) (length text) refl in
    let plain : (list_all is_plain text ≡ true) × (list_all is_plain (concat more) ≡ true) = and_parts _ _ (sym (list_all-append is_plain text (concat more)) ∙ coming.1) in
    let written : Placed b c at (comma_if later ++ 34 ∷ (text ++ 34 ∷ [])) end = rw first at placed in
    let room : end + length (concat more) + 3 * length more + 17 ≤ length c = omega (arith, coming.2, written.moved, written.len, comma_short later, length-append (comma_if later) (34 ∷ (text ++ 34 ∷ [])), length-append text (34 ∷ []), length-append text (concat more)) in
    (others, plain.1, room, written.len ∙ coming.3, item_written later text more plain.0 written ∙ coming.4)

-- the closing bracket is the last of what is written
pub all_written : {a b c xs : List ℕ} {start at end : ℕ} → start ≤ length a → at ≤ length b → length b ≡ length a → take at b ++ 93 ∷ [] ≡ take start a ++ xs → Placed b c at (93 ∷ []) end → Placed a c start xs end
all_written {a} {b} {c} {xs} {start} {at} {end} begins within same whole p = record {
  front = p.front ∙ whole;
  moved = omega (arith, p.moved, ap length whole, length-append (take at b) (93 ∷ []), length-append (take start a) xs, length-take-le at b within, length-take-le start a begins);
  len = p.len ∙ same;
}

-- the members of a group as they are answered
members_are : (texts : List (List ℕ)) → compact_text (answer_data (answer.Members texts)) ≡ codes "{\"members\":" ++ (compact_text (array (strings texts)) ++ codes ",\"ok\":true}")
unfolding answer_data escape_byte
members_are texts = refl

-- the answer, written in three parts
pub members_written : (buffer first array_too all : List ℕ) (texts : List (List ℕ)) → first ≡ buffer ++ codes "{\"members\":" → array_too ≡ first ++ compact_text (array (strings texts)) → all ≡ array_too ++ codes ",\"ok\":true}" → all ≡ buffer ++ compact_text (answer_data (answer.Members texts))
members_written buffer first array_too all texts front middle back =
    let names = compact_text (array (strings texts)) in
    let before = codes "{\"members\":" in
    let behind = codes ",\"ok\":true}" in
    back ∙ ap (λ (l : List ℕ). l ++ behind) (middle ∙ ap (λ (l : List ℕ). l ++ names) front)
    ∙ append_assoc (buffer ++ before) names behind ∙ append_assoc buffer before (names ++ behind)
    ∙ ap (λ (l : List ℕ). buffer ++ l) (sym (members_are texts))
