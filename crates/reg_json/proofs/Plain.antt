-- The text of a plain value reads as that value.
use Rattle.std.proofs.Common.{◌≡◌, ℕ, suc, ◌≤◌, ◌<◌, ◌^◌, Bool, true, false, ◌&&◌, ltb, pos, negsuc, List, [], ◌∷◌, map, Some, refl, sym, ap, ◌∙◌, arith, append-nil}
use Rattle.std.specs.Prelude.{⊤}
use Rattle.std.specs.List.{list_all}
use Rattle.std.proofs.lemmas.Bool.{and_parts, and_from, ltb-true, false≢true}
use Rattle.json.specs.Lex.{tokens}
use Rattle.json.specs.Tree as tree
use Rattle.json.specs.Print.{IsNumber}
use Rattle.json.proofs.Printed.Tokens.{tokens-print}
use Rattle.json.proofs.Printed.Trees.{value-json_tokens, ArePrintable-json_tokens}
use Rattle.json.proofs.Printed.Decimals.{IsNumber-decimal, IsNumber-signed_decimal}
use Rattle.serde_json.specs.Data.{Num, unsigned, negative, float, Data, null, boolean, number, string, array, object, Items, no_items, item, Members, no_members, member, put, depth, items_depth, members_depth}
use Rattle.serde_json.specs.Read.{number_of, of_json, of_items, of_members, max_depth, read}
use Rattle.serde_json.specs.Written.{number_text, outline, items_outline, members_outline, compact_text}
use Rattle.serde_json.proofs.Numbers.{number_of-decimal, number_of-negative}
use Rattle.serde_json.proofs.Texts.{print-outline}
use Rattle.serde_json.specs.View.{items_of}
use Rattle.std.specs.Ordering.{nat_cmp, match_ordering}
use Rattle.std.specs.declared.cmp.Ordering.{Ordering}
use Rattle.std.specs.declared.cmp.Ordering.TheVariants.{Less, Equal, Greater}
use Rattle.std.specs.Cmp.Lexicographic.{slice_cmp}

-- the key comes after each of these
abbrev pub ComesLast : List ℕ → Members → Type 0
ComesLast k no_members = ⊤
ComesLast k (member l e ms) = (slice_cmp nat_cmp k l ≡ Greater) × ComesLast k ms

-- the members with one more at the end
abbrev pub then_member : Members → List ℕ → Data → Members
then_member no_members k d = member k d no_members
then_member (member l e ms) k d = member l e (then_member ms k d)

-- the keys ascend by bytes, and come after those before
abbrev pub Ascends : Members → Members → Type 0
Ascends before no_members = ⊤
Ascends before (member k d ms) = ComesLast k before × Ascends (then_member before k d) ms

-- a whole number of 64 bits
abbrev pub IsWhole : Num → Type 0
IsWhole (unsigned n) = n < 2 ^ 64
IsWhole (negative (pos n)) = ⊥
IsWhole (negative (negsuc n)) = n < 2 ^ 63
IsWhole (float x) = ⊥

-- the numbers are whole, and the keys of each object ascend
abbrev mutual
  pub IsPlain : Data → Type 0
  IsPlain null = ⊤
  IsPlain (boolean b) = ⊤
  IsPlain (number n) = IsWhole n
  IsPlain (string s) = ⊤
  IsPlain (array ds) = ArePlain ds
  IsPlain (object ms) = Ascends no_members ms × MembersArePlain ms

  pub ArePlain : Items → Type 0
  ArePlain no_items = ⊤
  ArePlain (item d ds) = IsPlain d × ArePlain ds

  pub MembersArePlain : Members → Type 0
  MembersArePlain no_members = ⊤
  MembersArePlain (member k d ms) = IsPlain d × MembersArePlain ms

-- ---- numbers

IsNumber-text : (n : Num) → IsWhole n → IsNumber (number_text n)
IsNumber-text (unsigned n) h = IsNumber-decimal n h
IsNumber-text (negative (negsuc n)) h = IsNumber-signed_decimal (negsuc n) h
IsNumber-text (negative (pos n)) h = absurd h
IsNumber-text (float x) h = absurd h

number_of-text : (n : Num) → IsWhole n → number_of (number_text n) ≡ Some n
number_of-text (unsigned n) h = number_of-decimal n h
number_of-text (negative (negsuc n)) h = number_of-negative n h
number_of-text (negative (pos n)) h = absurd h
number_of-text (float x) h = absurd h

mutual
  HasNumbers-outline : (d : Data) → IsPlain d → tree.HasNumbers (outline d)
  HasNumbers-outline null h = tt
  HasNumbers-outline (boolean b) h = tt
  HasNumbers-outline (number n) h = IsNumber-text n h
  HasNumbers-outline (string s) h = tt
  HasNumbers-outline (array ds) h = ItemsHaveNumbers-outline ds h
  HasNumbers-outline (object ms) h = MembersHaveNumbers-outline ms h.1

  ItemsHaveNumbers-outline : (ds : Items) → ArePlain ds → tree.ItemsHaveNumbers (items_outline ds)
  ItemsHaveNumbers-outline no_items h = tt
  ItemsHaveNumbers-outline (item d ds) h = (HasNumbers-outline d h.0, ItemsHaveNumbers-outline ds h.1)

  MembersHaveNumbers-outline : (ms : Members) → MembersArePlain ms → tree.MembersHaveNumbers (members_outline ms)
  MembersHaveNumbers-outline no_members h = tt
  MembersHaveNumbers-outline (member k d ms) h = (HasNumbers-outline d h.0, MembersHaveNumbers-outline ms h.1)

-- ---- depth

mutual
  depth-outline : (d : Data) → tree.depth (outline d) ≡ depth d
  depth-outline null = refl
  depth-outline (boolean b) = refl
  depth-outline (number n) = refl
  depth-outline (string s) = refl
  depth-outline (array ds) = ap suc (items_depth-outline ds)
  depth-outline (object ms) = ap suc (members_depth-outline ms)

  items_depth-outline : (ds : Items) → tree.items_depth (items_outline ds) ≡ items_depth ds
  items_depth-outline no_items = refl
  items_depth-outline (item d ds) = rw (depth-outline d, items_depth-outline ds)

  members_depth-outline : (ms : Members) → tree.members_depth (members_outline ms) ≡ members_depth ms
  members_depth-outline no_members = refl
  members_depth-outline (member k d ms) = rw (depth-outline d, members_depth-outline ms)

-- ---- members that come in order go in one after another

put_last : (k : List ℕ) (d : Data) (before : Members) → ComesLast k before → put k d before ≡ then_member before k d
put_last k d no_members h = refl
put_last k d (member l e ms) h = rw h.0 (ap (member l e) (put_last k d ms h.1))

abbrev joined : Members → Members → Members
joined before no_members = before
joined before (member k d ms) = joined (then_member before k d) ms

joined-member : (l : List ℕ) (e : Data) (before ms : Members) → joined (member l e before) ms ≡ member l e (joined before ms)
joined-member l e before no_members = refl
joined-member l e before (member k d ms) = joined-member l e (then_member before k d) ms

joined-none : (ms : Members) → joined no_members ms ≡ ms
joined-none no_members = refl
joined-none (member k d ms) = joined-member k d no_members ms ∙ ap (member k d) (joined-none ms)

mutual
  of_json-outline : (d : Data) → IsPlain d → of_json (outline d) ≡ Some d
  of_json-outline null h = refl
  of_json-outline (boolean b) h = refl
  of_json-outline (number n) h = rw (number_of-text n h)
  of_json-outline (string s) h = refl
  of_json-outline (array ds) h = rw (of_items-outline ds h)
  of_json-outline (object ms) h = rw (of_members-outline ms no_members h.0 h.1, joined-none ms)

  of_items-outline : (ds : Items) → ArePlain ds → of_items (items_outline ds) ≡ Some ds
  of_items-outline no_items h = refl
  of_items-outline (item d ds) h = rw (of_json-outline d h.0, of_items-outline ds h.1)

  of_members-outline : (ms before : Members) → Ascends before ms → MembersArePlain ms → of_members (members_outline ms) before ≡ Some (joined before ms)
  of_members-outline no_members before a h = refl
  of_members-outline (member k d ms) before a h = rw (of_json-outline d h.0, put_last k d before a.0) (of_members-outline ms (then_member before k d) a.1 h.1)

-- ---- the round trip

pub read-compact_text : (d : Data) → IsPlain d → depth d ≤ max_depth → read (compact_text d) ≡ Some d
read-compact_text d h shallow =
    let j = outline d in
    let same : tokens (compact_text d) ≡ tree.json_tokens j =
    ap tokens (sym (print-outline d)) ∙ tokens-print (tree.json_tokens j) (ArePrintable-json_tokens j (HasNumbers-outline d h)) in
    let value = value-json_tokens j max_depth [] (omega (arith, depth-outline d)) in
    rw (same, ← append-nil (tree.json_tokens j)) (rw value (of_json-outline d h))

-- ---- the same as tests, which compute

abbrev is_greater : Ordering → Bool
is_greater o = match_ordering o false false true

abbrev comes_last : List ℕ → Members → Bool
comes_last k no_members = true
comes_last k (member l e ms) = is_greater (slice_cmp nat_cmp k l) && comes_last k ms

abbrev ascends : Members → Members → Bool
ascends before no_members = true
ascends before (member k d ms) = comes_last k before && ascends (then_member before k d) ms

abbrev is_whole : Num → Bool
is_whole (unsigned n) = ltb n 18446744073709551616
is_whole (negative (pos n)) = false
is_whole (negative (negsuc n)) = ltb n 9223372036854775808
is_whole (float x) = false

-- numbers are whole, and the keys of each object ascend
abbrev mutual
  pub is_plain : Data → Bool
  is_plain null = true
  is_plain (boolean b) = true
  is_plain (number n) = is_whole n
  is_plain (string s) = true
  is_plain (array ds) = are_plain ds
  is_plain (object ms) = ascends no_members ms && members_are_plain ms

  pub are_plain : Items → Bool
  are_plain no_items = true
  are_plain (item d ds) = is_plain d && are_plain ds

  pub members_are_plain : Members → Bool
  members_are_plain no_members = true
  members_are_plain (member k d ms) = is_plain d && members_are_plain ms

greater_is : (o : Ordering) → is_greater o ≡ true → o ≡ Greater
greater_is Less h = absurd (false≢true h)
greater_is Equal h = absurd (false≢true h)
greater_is Greater h = refl

last_is : (k : List ℕ) (ms : Members) → comes_last k ms ≡ true → ComesLast k ms
last_is k no_members h = tt
last_is k (member l e ms) h = let both = and_parts _ _ h in (greater_is _ both.0, last_is k ms both.1)

ascends_is : (before ms : Members) → ascends before ms ≡ true → Ascends before ms
ascends_is before no_members h = tt
ascends_is before (member k d ms) h = let both = and_parts _ _ h in (last_is k before both.0, ascends_is (then_member before k d) ms both.1)

whole_is : (n : Num) → is_whole n ≡ true → IsWhole n
whole_is (unsigned n) h = ltb-true n 18446744073709551616 h
whole_is (negative (pos n)) h = absurd (false≢true h)
whole_is (negative (negsuc n)) h = ltb-true n 9223372036854775808 h
whole_is (float x) h = absurd (false≢true h)

mutual
  plain_is : (d : Data) → is_plain d ≡ true → IsPlain d
  plain_is null h = tt
  plain_is (boolean b) h = tt
  plain_is (number n) h = whole_is n h
  plain_is (string s) h = tt
  plain_is (array ds) h = plains_are ds h
  plain_is (object ms) h = let both = and_parts (ascends no_members ms) (members_are_plain ms) h in (ascends_is no_members ms both.0, members_plain ms both.1)

  plains_are : (ds : Items) → are_plain ds ≡ true → ArePlain ds
  plains_are no_items h = tt
  plains_are (item d ds) h = let both = and_parts (is_plain d) (are_plain ds) h in (plain_is d both.0, plains_are ds both.1)

  members_plain : (ms : Members) → members_are_plain ms ≡ true → MembersArePlain ms
  members_plain no_members h = tt
  members_plain (member k d ms) h = let both = and_parts (is_plain d) (members_are_plain ms) h in (plain_is d both.0, members_plain ms both.1)

-- the text of plain data reads as these data
pub plain_read : (d : Data) → is_plain d ≡ true → depth d ≤ max_depth → read (compact_text d) ≡ Some d
plain_read d h shallow = read-compact_text d (plain_is d h) shallow

-- ---- arrays of what a list has

pub all_plain : {A : Type 0} (write : A → Data) (fits : A → Bool) → ((x : A) → fits x ≡ true → is_plain (write x) ≡ true) → (xs : List A) → list_all fits xs ≡ true → are_plain (items_of (map write xs)) ≡ true
all_plain write fits one [] h = refl
all_plain write fits one (x ∷ xs) h =
    let both = and_parts (fits x) (list_all fits xs) h in
    and_from _ _ (one x both.0) (all_plain write fits one xs both.1)

pub all_flat : {A : Type 0} (n : ℕ) (write : A → Data) → ((x : A) → depth (write x) ≤ n) → (xs : List A) → items_depth (items_of (map write xs)) ≤ n
all_flat n write one [] = omega arith
all_flat n write one (x ∷ xs) = omega (arith, one x, all_flat n write one xs)
