-- Objects and their names.
use Rattle.std.proofs.Common.{◌≡◌, ◌++◌, ◌∷◌, [], ℕ, zero, suc, List, true, Option, Some, None, refl, sym, ap, ◌∙◌, append_assoc, codes, arith}
use Rattle.std.specs.Prelude.{IfSome}
use Rattle.std.specs.List.{join_with_byte}
use Rattle.std.proofs.lemmas.List.{append-nil}
use Rattle.reg_terms.specs.declared.kinds.Object.{Object}
use Rattle.reg_facts.specs.Lists.{Lists}
use Rattle.reg_facts.specs.Rows.{folder_row}
use Rattle.reg_terms.specs.declared.rows.FolderRow.{FolderRow}
use Rattle.reg_facts.specs.Named.{AreNamed}
use Rattle.reg_facts.specs.Naming.{Placed, placed, place_of, path, most_levels, resolve, extensions, name_of}
use Rattle.reg_facts.specs.Sound.{is_named}
use Rattle.reg_names.specs.Colons.{with_colons}

-- what a name names has it, and has a name
pub some_named : (r : Option Object) (text : List ℕ) (f : Lists) → AreNamed f → r ≡ resolve text f → IfSome r (λ o. (name_of o f ≡ text) × (is_named o f ≡ true))
some_named None text f n h = tt
some_named (Some o) text f n h = n.found text o (sym h)

pub named_is : (r : Option Object) (text : List ℕ) (f : Lists) → AreNamed f → r ≡ resolve text f → (o : Object) → is_named o f ≡ true → name_of o f ≡ text → r ≡ Some o
named_is r text f n h o named name = h ∙ ap (λ t. resolve t f) (sym name) ∙ n.finds o named

-- one level more
pub colons_push : (es : List (List ℕ)) (e : List ℕ) → with_colons (es ++ e ∷ []) ≡ with_colons es ++ e ++ 58 ∷ []
colons_push [] e = refl
colons_push (x ∷ es) e =
    ap (λ t. x ++ 58 ∷ t) (colons_push es e)
    ∙ sym (ap (λ t. t ++ 58 ∷ []) (append_assoc x (58 ∷ with_colons es) e) ∙ append_assoc x (58 ∷ with_colons es ++ e) (58 ∷ []))

joined : (x : List ℕ) (es : List (List ℕ)) (e : List ℕ) → join_with_byte 58 (x ∷ es ++ e ∷ []) ≡ with_colons (x ∷ es) ++ e
joined x [] e = sym (append_assoc x (58 ∷ []) e)
joined x (y ∷ es) e = ap (λ t. x ++ 58 ∷ t) (joined y es e) ∙ sym (append_assoc x (58 ∷ with_colons (y ∷ es)) e)

-- a name of these extensions
abbrev named : List (List ℕ) → List ℕ
named es = elim es [ [] ↦ codes ":" | x ∷ xs ↦ join_with_byte 58 (x ∷ xs) ]

-- the name of what stands in a folder
at_path : (o : Object) (p : Placed) (f : Lists) → place_of o (placed f) ≡ Some p → name_of o f ≡ named (path most_levels p.folder f.folders ++ p.extension ∷ [])
unfolding name_of extensions
at_path o p f at = rw (at, extensions, name_of)

pub name_in_path : (o : Object) (p : Placed) (f : Lists) → place_of o (placed f) ≡ Some p → name_of o f ≡ with_colons (path most_levels p.folder f.folders) ++ p.extension
name_in_path o p f at = at_path o p f at ∙ whole (path most_levels p.folder f.folders)
  where
    whole : (es : List (List ℕ)) → named (es ++ p.extension ∷ []) ≡ with_colons es ++ p.extension
    whole [] = refl
    whole (x ∷ es) = joined x es p.extension

-- and of what stands in none
pub name_nowhere : (o : Object) (f : Lists) → place_of o (placed f) ≡ None → name_of o f ≡ codes ":"
unfolding name_of extensions
name_nowhere o f none = rw (none, extensions, name_of)

-- the way to a folder by its row
path_up : (n d p : ℕ) (row : FolderRow) (fs : List FolderRow) → folder_row d fs ≡ Some row → row.parent ≡ Some p → path (suc n) d fs ≡ path n p fs ++ row.extension ∷ []
unfolding path
path_up n d p row fs some up = rw (some, up, path)

path_none : (n d : ℕ) (fs : List FolderRow) → folder_row d fs ≡ None → path n d fs ≡ []
unfolding path
path_none zero d fs none = refl
path_none (suc n) d fs none = rw (none, path)

path_root : (n d : ℕ) (row : FolderRow) (fs : List FolderRow) → folder_row d fs ≡ Some row → row.parent ≡ None → path n d fs ≡ []
unfolding path
path_root zero d row fs some root = refl
path_root (suc n) d row fs some root = rw (some, root, path)

path_short : (n d : ℕ) (fs : List FolderRow) → n ≡ 0 → path n d fs ≡ []
unfolding path
path_short zero d fs e = refl
path_short (suc n) d fs e = absurd (omega arith)

-- nothing is written where the way is empty
nothing : (es : List (List ℕ)) (t : List ℕ) → es ≡ [] → t ≡ t ++ with_colons es
nothing es t e = rw e (sym (append-nil t))

pub no_level : (n d : ℕ) (fs : List FolderRow) (t : List ℕ) → n ≡ 0 → t ≡ t ++ with_colons (path n d fs)
no_level n d fs t e = nothing (path n d fs) t (path_short n d fs e)

pub no_row : (n d : ℕ) (fs : List FolderRow) (t : List ℕ) → None ≡ folder_row d fs → t ≡ t ++ with_colons (path n d fs)
no_row n d fs t none = nothing (path n d fs) t (path_none n d fs (sym none))

pub no_parent : (n d : ℕ) (row : FolderRow) (fs : List FolderRow) (t : List ℕ) → Some row ≡ folder_row d fs → row.parent ≡ None → t ≡ t ++ with_colons (path n d fs)
no_parent n d row fs t some root = nothing (path n d fs) t (path_root n d row fs (sym some) root)

-- what stands above, the extension and a colon
pub one_level : (n l d p : ℕ) (row : FolderRow) (fs : List FolderRow) (t a b c : List ℕ) → l ≡ suc n → Some row ≡ folder_row d fs → row.parent ≡ Some p
    → a ≡ t ++ with_colons (path n p fs) → b ≡ a ++ row.extension → c ≡ b ++ 58 ∷ [] → c ≡ t ++ with_colons (path l d fs)
one_level n l d p row fs t a b c levels some up first second third =
    let way : path l d fs ≡ path n p fs ++ row.extension ∷ [] = rw levels (path_up n d p row fs (sym some) up) in
    let written : with_colons (path l d fs) ≡ with_colons (path n p fs) ++ row.extension ++ 58 ∷ [] = ap with_colons way ∙ colons_push (path n p fs) row.extension in
    rw written (
    third
    ∙ ap (λ (x : List ℕ). x ++ 58 ∷ []) (second ∙ (ap (λ (x : List ℕ). x ++ row.extension) first ∙ append_assoc t (with_colons (path n p fs)) row.extension))
    ∙ append_assoc t (with_colons (path n p fs) ++ row.extension) (58 ∷ []))
