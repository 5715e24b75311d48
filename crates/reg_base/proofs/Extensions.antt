-- A name falls at its last colon into its folder's name and its last extension.
use Rattle.std.proofs.Common.{◌≡◌, ℕ, zero, suc, ◌-◌, ◌<◌, ◌≤◌, Bool, true, false, cond, nat_le, List, [], ◌∷◌, ◌++◌, Some, None, take, drop, get_or, length, refl, sym, ap, ◌∙◌, arith}
use Rattle.std.specs.List.{list_all, onto_first, join_with_byte, All}
use Rattle.std.proofs.Math.Seq.{drop-cons}
use Rattle.std.proofs.lemmas.Bool.{and_parts, and_from, leb-true, le-leb}
use Rattle.std.proofs.lemmas.List.{take-append-drop, length-append}
use Rattle.std.proofs.lemmas.List.Folds.{list_all-append}
use Rattle.std.proofs.lemmas.List.Splits.{slice_split_none, length-slice_split, join_with_byte-slice_split}
use Rattle.reg_base.specs.Names.{is_colon, is_extension, extensions_of, is_name}
use Rattle.reg_base.specs.NameParts.{last_of, front_of, joined, extension_of, folder_of}

onto_first-append : (x : ℕ) (a b : List (List ℕ)) → 0 < length a → onto_first x (a ++ b) ≡ onto_first x a ++ b
onto_first-append x [] b h = absurd (omega arith)
onto_first-append x (piece ∷ a) b h = refl

cond-append : (t : Bool) (x : ℕ) (a b : List (List ℕ)) → 0 < length a → cond t ([] ∷ (a ++ b)) (onto_first x (a ++ b)) ≡ cond t ([] ∷ a) (onto_first x a) ++ b
cond-append true x a b h = refl
cond-append false x a b h = onto_first-append x a b h

some_pieces : (text : List ℕ) → 0 < length (extensions_of text)
some_pieces text = omega (arith, length-slice_split is_colon text)

-- two texts joined by a colon have the pieces of both
pub extensions_of-join : (a b : List ℕ) → extensions_of (a ++ 58 ∷ b) ≡ extensions_of a ++ extensions_of b
extensions_of-join [] b = refl
extensions_of-join (x ∷ a) b = ap (λ pieces. cond (is_colon x) ([] ∷ pieces) (onto_first x pieces)) (extensions_of-join a b) ∙ cond-append (is_colon x) x (extensions_of a) (extensions_of b) (some_pieces a)

last_of-push : (a : List (List ℕ)) (x : List ℕ) → last_of (a ++ x ∷ []) ≡ x
last_of-push [] x = refl
last_of-push (y ∷ []) x = refl
last_of-push (y ∷ z ∷ a) x = last_of-push (z ∷ a) x

front_of-push : (a : List (List ℕ)) (x : List ℕ) → front_of (a ++ x ∷ []) ≡ a
front_of-push [] x = refl
front_of-push (y ∷ []) x = refl
front_of-push (y ∷ z ∷ a) x = ap (λ more. y ∷ more) (front_of-push (z ∷ a) x)

joined_some : (pieces : List (List ℕ)) → 0 < length pieces → joined pieces ≡ Some (join_with_byte 58 pieces)
joined_some [] h = absurd (omega arith)
joined_some (piece ∷ more) h = refl

-- a text with no colon is one extension in the root
pub alone : (text : List ℕ) → All (λ b. is_colon b ≡ false) text → (extension_of text ≡ text) × (folder_of text ≡ None)
unfolding extension_of folder_of
alone text plain = let one = slice_split_none is_colon text plain in (ap last_of one, ap (λ pieces. joined (front_of pieces)) one)

-- a folder's name and an extension, joined by a colon
pub in_folder : (folder text : List ℕ) → All (λ b. is_colon b ≡ false) text → (extension_of (folder ++ 58 ∷ text) ≡ text) × (folder_of (folder ++ 58 ∷ text) ≡ Some folder)
unfolding extension_of folder_of
in_folder folder text plain =
    let pieces = extensions_of-join folder text ∙ ap (λ more. extensions_of folder ++ more) (slice_split_none is_colon text plain) in (
      ap last_of pieces ∙ last_of-push (extensions_of folder) text,
      ap (λ found. joined (front_of found)) pieces ∙ ap joined (front_of-push (extensions_of folder) text) ∙ joined_some (extensions_of folder) (some_pieces folder) ∙ ap (λ name. Some name) (join_with_byte-slice_split 58 folder),
    )

-- the two sides of a colon and the colon are the text
whole_at : (text : List ℕ) (start : ℕ) → 0 < start → start ≤ length text → get_or text (start - 1) 0 ≡ 58 → take (start - 1) text ++ 58 ∷ drop start text ≡ text
whole_at text start some bound colon =
    let inside : start - 1 < length text = omega arith in
    let next : suc (start - 1) ≡ start = omega arith in
    let rest : drop (start - 1) text ≡ 58 ∷ drop start text = drop-cons text (start - 1) 0 inside ∙ ap (λ b. b ∷ drop (suc (start - 1)) text) colon ∙ ap (λ n. 58 ∷ drop n text) next in
    ap (λ more. take (start - 1) text ++ more) (sym rest) ∙ take-append-drop (start - 1) text

-- the place after the last colon cuts a text so
pub cut_at : (text : List ℕ) (start : ℕ) → 0 < start → start ≤ length text → get_or text (start - 1) 0 ≡ 58 → All (λ b. is_colon b ≡ false) (drop start text) → (extension_of text ≡ drop start text) × (folder_of text ≡ Some (take (start - 1) text))
cut_at text start some bound colon plain =
    let whole = whole_at text start some bound colon in
    let parts = in_folder (take (start - 1) text) (drop start text) plain in
    (ap extension_of (sym whole) ∙ parts.0, ap folder_of (sym whole) ∙ parts.1)

-- the last extension, from the place after the last colon on, or from the start where there is none
pub extension_at : (text : List ℕ) (start : ℕ) → start ≤ length text → (0 < start → get_or text (start - 1) 0 ≡ 58) → All (λ b. is_colon b ≡ false) (drop start text) → extension_of text ≡ drop start text
extension_at text zero bound colon plain = (alone text plain).0
extension_at text (suc n) bound colon plain = (cut_at text (suc n) (omega arith) bound (colon (omega arith)) plain).0

join_is_name : (folder text : List ℕ) → All (λ b. is_colon b ≡ false) text → is_name (folder ++ 58 ∷ text) ≡ true → (is_name folder ≡ true) × (is_extension text ≡ true)
join_is_name folder text plain h =
    let both = and_parts _ _ h in
    let pieces = extensions_of-join folder text ∙ ap (λ more. extensions_of folder ++ more) (slice_split_none is_colon text plain) in
    let each = and_parts _ _ (sym (list_all-append is_extension (extensions_of folder) (text ∷ [])) ∙ ap (λ all. list_all is_extension all) (sym pieces) ∙ both.1) in
    let short : nat_le (length folder) 1000 ≡ true = le-leb (length folder) 1000 (omega (arith, leb-true _ _ both.0, length-append folder (58 ∷ text))) in
    (and_from _ _ short each.0, (and_parts _ _ each.1).0)

-- of a name the last extension is one, and the folder's name is one
pub name_cut : (text : List ℕ) (start : ℕ) → 0 < start → start ≤ length text → get_or text (start - 1) 0 ≡ 58 → All (λ b. is_colon b ≡ false) (drop start text) → is_name text ≡ true → (is_name (take (start - 1) text) ≡ true) × (is_extension (drop start text) ≡ true)
name_cut text start some bound colon plain h = join_is_name (take (start - 1) text) (drop start text) plain (ap is_name (whole_at text start some bound colon) ∙ h)

pub name_extension : (text : List ℕ) (start : ℕ) → start ≤ length text → (0 < start → get_or text (start - 1) 0 ≡ 58) → All (λ b. is_colon b ≡ false) (drop start text) → is_name text ≡ true → is_extension (drop start text) ≡ true
name_extension text zero bound colon plain h = (and_parts _ _ (ap (λ all. list_all is_extension all) (sym (slice_split_none is_colon text plain)) ∙ (and_parts _ _ h).1)).0
name_extension text (suc n) bound colon plain h = (name_cut text (suc n) (omega arith) bound (colon (omega arith)) plain h).1
