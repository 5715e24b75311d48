-- Which folders have names: those that stand among the rows, and the root.
use Rattle.std.proofs.Common.{◌≡◌, ◌==◌, ◌||◌, ◌++◌, ℕ, List, [], ◌∷◌, Bool, true, false, not, Option, Some, None, IsSome, inl, inr, refl, sym, ap, ◌∙◌, map, filter}
use Rattle.std.specs.List.{list_any}
use Rattle.std.proofs.lemmas.Bool.{cases_Bool, or_left, or_right, eqb-true, ne_eqb, eqb-false}
use Rattle.std.proofs.lemmas.List.Folds.{list_any-append}
use Rattle.reg_terms.specs.Kinds.{same_object}
use Rattle.reg_terms.specs.declared.kinds.Object.TheVariants.{Folder}
use Rattle.reg_terms.specs.declared.rows.AttributeRow.{AttributeRow}
use Rattle.reg_terms.specs.declared.rows.DefinitionRow.{DefinitionRow}
use Rattle.reg_terms.specs.declared.rows.FolderRow.{FolderRow}
use Rattle.reg_terms.specs.declared.rows.GroupRow.{GroupRow}
use Rattle.reg_facts.specs.Lists.{Lists, root}
use Rattle.reg_facts.specs.Naming.{Placed, placed_folders, placed_group, placed_definition, placed_attribute}
use Rattle.reg_facts.specs.Sound.{is_named}
use Rattle.reg_facts.proofs.Standing.{placed_is}

-- whether an object is a folder
abbrev pub is_folder : ℕ → Placed → Bool
is_folder d p = same_object p.object (Folder d)

-- whether a folder stands among some
abbrev pub stands_among : ℕ → List FolderRow → Bool
stands_among d fs = (d == root) || list_any (is_folder d) (placed_folders fs)

no_group : (d : ℕ) (gs : List GroupRow) → list_any (is_folder d) (map placed_group gs) ≡ false
no_group d [] = refl
no_group d (r ∷ gs) = no_group d gs

no_definition : (d : ℕ) (ds : List DefinitionRow) → list_any (is_folder d) (map placed_definition ds) ≡ false
no_definition d [] = refl
no_definition d (r ∷ ds) = no_definition d ds

no_attribute : (d : ℕ) (xs : List AttributeRow) → list_any (is_folder d) (map placed_attribute xs) ≡ false
no_attribute d [] = refl
no_attribute d (r ∷ xs) = no_attribute d xs

or_false : (b : Bool) → (b || false) ≡ b
or_false true = refl
or_false false = refl

pub named_is : (d : ℕ) (f : Lists) → is_named (Folder d) f ≡ stands_among d f.folders
named_is d f = ap (λ (ps : List Placed). (d == root) || list_any (is_folder d) ps) (placed_is f) ∙ ap (λ b. (d == root) || b)
    (list_any-append (is_folder d) (placed_folders f.folders) (map placed_group f.groups ++ (map placed_definition f.definitions ++ map placed_attribute f.attributes))
    ∙ ap (λ b. list_any (is_folder d) (placed_folders f.folders) || b)
    (list_any-append (is_folder d) (map placed_group f.groups) (map placed_definition f.definitions ++ map placed_attribute f.attributes)
    ∙ rw (no_group d f.groups)
    (list_any-append (is_folder d) (map placed_definition f.definitions) (map placed_attribute f.attributes)
    ∙ rw (no_definition d f.definitions) (no_attribute d f.attributes)))
    ∙ or_false (list_any (is_folder d) (placed_folders f.folders)))

-- which folders stand among others
abbrev pub MoreFolders : List FolderRow → List FolderRow → Type 0
MoreFolders old new = (d : ℕ) → stands_among d old ≡ true → stands_among d new ≡ true

-- the head of a list, placed or not
abbrev headed : ℕ → ℕ → Option ℕ → Bool → Bool
headed d id None rest = rest
headed d id (Some p) rest = (id == d) || rest

head_is : (d : ℕ) (row : FolderRow) (fs : List FolderRow) → list_any (is_folder d) (placed_folders (row ∷ fs)) ≡ headed d row.id row.parent (list_any (is_folder d) (placed_folders fs))
head_is d row fs = elim row.parent as (λ up. list_any (is_folder d) (elim up [ None ↦ placed_folders fs | Some p ↦ (record { object = Folder row.id; folder = p; extension = row.extension }) ∷ placed_folders fs ]) ≡ headed d row.id up (list_any (is_folder d) (placed_folders fs))) [
  | None ↦ refl
  | Some p ↦ refl
]

headed_more : (d id : ℕ) (up : Option ℕ) (a b : Bool) → (a ≡ true → b ≡ true) → headed d id up a ≡ true → headed d id up b ≡ true
headed_more d id None a b more h = more h
headed_more d id (Some p) a b more h = elim (cases_Bool (id == d)) [
  | inl t ↦ or_left (id == d) b t
  | inr t ↦ or_right (id == d) b (more (rw t at h))
]

headed_up : (d id : ℕ) (up to : Option ℕ) (a b : Bool) → (IsSome up → IsSome to) → (a ≡ true → b ≡ true) → headed d id up a ≡ true → headed d id to b ≡ true
headed_up d id None None a b some more h = more h
headed_up d id None (Some q) a b some more h = or_right (id == d) b (more h)
headed_up d id (Some p) None a b some more h = absurd (let none = some refl in let clash : ⊥ = cc in clash)
headed_up d id (Some p) (Some q) a b some more h = headed_more d id (Some q) a b more h

among_push : (d : ℕ) (fs : List FolderRow) (row : FolderRow) → list_any (is_folder d) (placed_folders fs) ≡ true → list_any (is_folder d) (placed_folders (fs ++ row ∷ [])) ≡ true
among_push d [] row h = cc
among_push d (r ∷ fs) row h = head_is d r (fs ++ row ∷ []) ∙ headed_more d r.id r.parent (list_any (is_folder d) (placed_folders fs)) (list_any (is_folder d) (placed_folders (fs ++ row ∷ []))) (among_push d fs row) (sym (head_is d r fs) ∙ h)

among_change : (change : FolderRow → FolderRow) → ((r : FolderRow) → (change r).id ≡ r.id) → ((r : FolderRow) → IsSome r.parent → IsSome (change r).parent) → (d : ℕ) (fs : List FolderRow) → list_any (is_folder d) (placed_folders fs) ≡ true → list_any (is_folder d) (placed_folders (map change fs)) ≡ true
among_change change keeps up d [] h = h
among_change change keeps up d (r ∷ fs) h =
    head_is d (change r) (map change fs)
    ∙ rw (keeps r) (headed_up d r.id r.parent (change r).parent (list_any (is_folder d) (placed_folders fs)) (list_any (is_folder d) (placed_folders (map change fs))) (up r) (among_change change keeps up d fs) (sym (head_is d r fs) ∙ h))

headed_other : (d id : ℕ) (up : Option ℕ) (a : Bool) → (id == d) ≡ false → headed d id up a ≡ true → a ≡ true
headed_other d id None a other h = h
headed_other d id (Some p) a other h = rw other at h

pub among_less : (d id : ℕ) (fs : List FolderRow) → (d == id) ≡ false → list_any (is_folder d) (placed_folders fs) ≡ true → list_any (is_folder d) (placed_folders (filter (λ (row : FolderRow). not (row.id == id)) fs)) ≡ true
among_less d id [] other h = h
among_less d id (r ∷ fs) other h = elim (cases_Bool (r.id == id)) [
  | inl t ↦
      let apart : (r.id == d) ≡ false = ne_eqb r.id d (λ e. eqb-false d id other (sym e ∙ eqb-true r.id id t)) in
      rw t (among_less d id fs other (headed_other d r.id r.parent (list_any (is_folder d) (placed_folders fs)) apart (sym (head_is d r fs) ∙ h)))
  | inr t ↦ rw t (head_is d r (filter (λ (row : FolderRow). not (row.id == id)) fs)
      ∙ headed_more d r.id r.parent (list_any (is_folder d) (placed_folders fs)) (list_any (is_folder d) (placed_folders (filter (λ (row : FolderRow). not (row.id == id)) fs))) (among_less d id fs other) (sym (head_is d r fs) ∙ h))
]

pub root_or : (d : ℕ) (a b : Bool) → (a ≡ true → b ≡ true) → ((d == root) || a) ≡ true → ((d == root) || b) ≡ true
root_or d a b more h = elim (cases_Bool (d == root)) [
  | inl t ↦ or_left (d == root) b t
  | inr t ↦ or_right (d == root) b (more (rw t at h))
]

pub folder_more : (fs : List FolderRow) (row : FolderRow) → MoreFolders fs (fs ++ row ∷ [])
folder_more fs row d h = root_or d (list_any (is_folder d) (placed_folders fs)) (list_any (is_folder d) (placed_folders (fs ++ row ∷ []))) (among_push d fs row) h

pub folder_changed : (change : FolderRow → FolderRow) → ((r : FolderRow) → (change r).id ≡ r.id) → ((r : FolderRow) → IsSome r.parent → IsSome (change r).parent) → (fs : List FolderRow) → MoreFolders fs (map change fs)
folder_changed change keeps up fs d h = root_or d (list_any (is_folder d) (placed_folders fs)) (list_any (is_folder d) (placed_folders (map change fs))) (among_change change keeps up d fs) h

pub same_folders : (fs : List FolderRow) → MoreFolders fs fs
same_folders fs d h = h
