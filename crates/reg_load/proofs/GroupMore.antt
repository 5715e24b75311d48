-- A group more: what was found is found, and the group is found by its name.
use Rattle.std.proofs.Common.{◌≡◌, ◌==◌, ◌++◌, ◌∙◌, ℕ, List, [], ◌∷◌, true, false, Option, Some, None, inl, inr, refl, sym, ap, subst, map, codes}
use Rattle.std.specs.Prelude.{if◌then◌else◌}
use Rattle.std.specs.Str.{bytes_eq}
use Rattle.std.proofs.lemmas.Bool.{cases_Bool, true≢false, and_parts, and_right, both_ways, false_from_ne_true}
use Rattle.std.proofs.lemmas.List.{append-nil, append_assoc}
use Rattle.reg_base.specs.Names.{extensions_of, is_name}
use Rattle.reg_base.specs.NameParts.{extension_of, last_of}
use Rattle.reg_base.proofs.Extensions.{alone, in_folder}
use Rattle.reg_terms.specs.declared.event.Event.TheVariants.{GroupMade, GrantAdded}
use Rattle.reg_terms.specs.declared.kinds.Object.{Object}
use Rattle.reg_terms.specs.declared.kinds.Object.TheVariants.{Folder, Group, Def, Attr, Subject}
use Rattle.reg_terms.specs.declared.rows.GrantRow.{GrantRow}
use Rattle.reg_terms.specs.declared.rows.GroupRow.{GroupRow}
use Rattle.reg_facts.specs.Events.{happened, all_happened, grants_added}
use Rattle.reg_facts.specs.Lists.{Lists, root}
use Rattle.reg_facts.specs.Named.{AreNamed}
use Rattle.reg_facts.specs.Naming.{placed, placed_folders, placed_group, placed_definition, placed_attribute, is_there, found_in, child, step, walk, resolve, as_folder, home_of, home_id, name_in}
use Rattle.reg_facts.proofs.Keeping.{parts_group_added, parts_group_split}
use Rattle.reg_facts.proofs.Places.{bytes_same, bytes_self, cases_option, there_is, is_there_by}
use Rattle.reg_facts.proofs.Placing.{found_put}
use Rattle.reg_facts.proofs.Walking.{cut, home_walk, resolve_cut}

-- the facts with a group more, and grants on it
abbrev pub grown : GroupRow → List GrantRow → Lists → Lists
grown row grants f = record f { groups = f.groups ++ row ∷ []; made = record f.made { groups = row.id }; grants = f.grants ++ grants }

pub after_grants : (rows : List GrantRow) (f : Lists) → all_happened (grants_added rows) f ≡ record f { grants = f.grants ++ rows }
after_grants [] f = ap (λ (gs : List GrantRow). record f { grants = gs }) (sym (append-nil f.grants))
after_grants (row ∷ rows) f = after_grants rows (happened (GrantAdded row) f) ∙ ap (λ (gs : List GrantRow). record f { grants = gs }) (append_assoc f.grants (row ∷ []) rows)

pub after_group : (row : GroupRow) (grants : List GrantRow) (f : Lists) → all_happened (GroupMade row ∷ grants_added grants) f ≡ grown row grants f
after_group row grants f = after_grants grants (happened (GroupMade row) f)

-- ---- what stands in a folder

pub child_grown : (d : ℕ) (e : List ℕ) (row : GroupRow) (grants : List GrantRow) (f : Lists) → child row.folder row.extension f ≡ None
    → child d e (grown row grants f) ≡ (if is_there d e (placed_group row) then Some (Group row.id) else child d e f)
unfolding placed
child_grown d e row grants f free =
    let split = parts_group_split f.folders f.groups f.definitions f.attributes in
    ap (λ ps. found_in d e ps) (parts_group_added row f.folders f.groups f.definitions f.attributes)
    ∙ (found_put d e (placed_group row) (placed_folders f.folders ++ map placed_group f.groups) (map placed_definition f.definitions ++ map placed_attribute f.attributes) (subst (λ ps. found_in row.folder row.extension ps ≡ None) split free)
    ∙ ap (λ ps. if is_there d e (placed_group row) then Some (Group row.id) else found_in d e ps) (sym split))

-- all that was found in a folder is found there
abbrev pub Keeps : Lists → Lists → Type 0
Keeps f g = (d : ℕ) (e : List ℕ) (o : Object) → child d e f ≡ Some o → child d e g ≡ Some o

pub child_kept : (row : GroupRow) (grants : List GrantRow) (f : Lists) → child row.folder row.extension f ≡ None → Keeps f (grown row grants f)
child_kept row grants f free d e o h = elim (cases_Bool (is_there d e (placed_group row))) [
  | inl t ↦
      let at = there_is d e (placed_group row) t in
      absurd (let none : child d e f ≡ None = rw (at.0, at.1) at free in let clash : ⊥ = cc in clash)
  | inr t ↦ child_grown d e row grants f free ∙ rw t h
]

pub child_new : (row : GroupRow) (grants : List GrantRow) (f : Lists) → child row.folder row.extension f ≡ None → child row.folder row.extension (grown row grants f) ≡ Some (Group row.id)
child_new row grants f free = child_grown row.folder row.extension row grants f free ∙ rw (is_there_by row.folder row.extension (placed_group row) refl refl) refl

pub child_free : (d : ℕ) (e : List ℕ) (row : GroupRow) (grants : List GrantRow) (f : Lists) → child row.folder row.extension f ≡ None → bytes_eq row.extension e ≡ false → child d e f ≡ None → child d e (grown row grants f) ≡ None
child_free d e row grants f free other h = child_grown d e row grants f free ∙ rw (and_right (row.folder == d) (bytes_eq row.extension e) other) h

-- ---- what a name names

walk_none : (es : List (List ℕ)) (f : Lists) → walk None es f ≡ None
walk_none [] f = refl
walk_none (e ∷ es) f = walk_none es f

walk_kept : (f g : Lists) → Keeps f g → (found : Option Object) (es : List (List ℕ)) (o : Object) → walk found es f ≡ Some o → walk found es g ≡ Some o
walk_kept f g kept found [] o h = h
walk_kept f g kept None (e ∷ es) o h = walk_kept f g kept None es o h
walk_kept f g kept (Some (Folder d)) (e ∷ es) o h = elim (cases_option (child d e f)) [
  | inl none ↦ absurd (let at : walk None es f ≡ Some o = rw none at h in let nowhere = walk_none es f in let clash : ⊥ = cc in clash)
  | inr x ↦ rw (kept d e x.0 x.1) (walk_kept f g kept (Some x.0) es o (rw x.1 at h))
]
walk_kept f g kept (Some (Group d)) (e ∷ es) o h = walk_kept f g kept None es o h
walk_kept f g kept (Some (Def d)) (e ∷ es) o h = walk_kept f g kept None es o h
walk_kept f g kept (Some (Attr d)) (e ∷ es) o h = walk_kept f g kept None es o h
walk_kept f g kept (Some (Subject d)) (e ∷ es) o h = walk_kept f g kept None es o h

pub resolve_kept : (f g : Lists) → Keeps f g → (text : List ℕ) (o : Object) → resolve text f ≡ Some o → resolve text g ≡ Some o
unfolding resolve
resolve_kept f g kept text o h = elim (cases_Bool (bytes_eq text (codes ":"))) [
  | inl t ↦ rw t (rw t at h)
  | inr t ↦ rw t (walk_kept f g kept (Some (Folder root)) (extensions_of text) o (rw t at h))
]

pub home_is : (name : List ℕ) (d : ℕ) (f : Lists) → home_id name f ≡ Some d → resolve (home_of name) f ≡ Some (Folder d)
home_is name d f h = go (resolve (home_of name) f) h
  where
    go : (found : Option Object) → as_folder found ≡ Some d → found ≡ Some (Folder d)
    go None e = cc
    go (Some (Folder x)) e = cc
    go (Some (Group x)) e = cc
    go (Some (Def x)) e = cc
    go (Some (Attr x)) e = cc
    go (Some (Subject x)) e = cc

pub home_kept : (f g : Lists) → Keeps f g → (name : List ℕ) (d : ℕ) → home_id name f ≡ Some d → home_id name g ≡ Some d
home_kept f g kept name d h = rw (resolve_kept f g kept (home_of name) (Folder d) (home_is name d f h)) refl

not_root : (name : List ℕ) → is_name name ≡ true → bytes_eq name (codes ":") ≡ false
not_root name h = false_from_ne_true (bytes_eq name (codes ":")) (λ t. (let at : is_name (codes ":") ≡ true = rw (bytes_same name (codes ":") t) at h in true≢false (sym at)))

-- what a name names is what its extension names in its folder
pub named_child : (name : List ℕ) (d : ℕ) (f : Lists) → is_name name ≡ true → home_id name f ≡ Some d → resolve name f ≡ child d (extension_of name) f
unfolding extension_of
named_child name d f form home = resolve_cut name f (not_root name form) ∙ ap (λ found. step found (last_of (extensions_of name)) f) (sym (home_walk name f form) ∙ home_is name d f home)

-- ---- names apart have extensions apart

no_root : (front last : List ℕ) → is_name (front ++ 58 ∷ last) ≡ true → bytes_eq front (codes ":") ≡ false
no_root front last h = false_from_ne_true (bytes_eq front (codes ":")) (λ t. (let at : is_name (58 ∷ 58 ∷ last) ≡ true = rw (bytes_same front (codes ":") t) at h in true≢false (sym (and_parts _ _ at).1)))

-- a name is its folder's name and its extension
name_is : (name : List ℕ) → is_name name ≡ true → name_in (home_of name) (extension_of name) ≡ name
name_is name h = elim (cut name) [
  | inl plain ↦ let at = alone name plain in rw (at.1, at.0) refl
  | inr c ↦ let at = in_folder c.front c.last c.plain in rw (c.is, at.1, at.0, no_root c.front c.last (rw c.is at h)) refl
]

pub extensions_apart : (a b : List ℕ) (d : ℕ) (f : Lists) → AreNamed f → is_name a ≡ true → is_name b ≡ true → home_id a f ≡ Some d → home_id b f ≡ Some d → bytes_eq a b ≡ false → bytes_eq (extension_of a) (extension_of b) ≡ false
extensions_apart a b d f named form_a form_b home_a home_b apart = false_from_ne_true (bytes_eq (extension_of a) (extension_of b)) (λ t. (
    let last : extension_of a ≡ extension_of b = bytes_same (extension_of a) (extension_of b) t in
    let first : home_of a ≡ home_of b = sym (named.found (home_of a) (Folder d) (home_is a d f home_a)).0 ∙ (named.found (home_of b) (Folder d) (home_is b d f home_b)).0 in
    let same : a ≡ b = sym (name_is a form_a) ∙ (ap (λ home. name_in home (extension_of a)) first ∙ (ap (λ e. name_in (home_of b) e) last ∙ name_is b form_b)) in
    both_ways (bytes_eq a b) apart (rw same (bytes_self b))))
