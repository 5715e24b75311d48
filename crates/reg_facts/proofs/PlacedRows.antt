-- Where an object stands, found among the rows of its kind.
use Rattle.std.proofs.Common.{◌≡◌, ◌==◌, ◌++◌, ◌∷◌, ℕ, List, [], Bool, true, false, Option, Some, None, inl, inr, refl, sym, ap, ◌∙◌, map, option_map}
use Rattle.std.specs.List.{find}
use Rattle.std.proofs.lemmas.Bool.{cases_Bool, eqb-true}
use Rattle.reg_terms.specs.declared.kinds.Object.{Object}
use Rattle.reg_terms.specs.declared.kinds.Object.TheVariants.{Folder, Group, Def, Attr, Subject}
use Rattle.reg_terms.specs.declared.rows.FolderRow.{FolderRow}
use Rattle.reg_terms.specs.declared.rows.GroupRow.{GroupRow}
use Rattle.reg_terms.specs.declared.rows.DefinitionRow.{DefinitionRow}
use Rattle.reg_terms.specs.declared.rows.AttributeRow.{AttributeRow}
use Rattle.reg_terms.specs.Kinds.{same_object}
use Rattle.reg_facts.specs.Lists.{Lists}
use Rattle.reg_facts.specs.Naming.{Placed, placed, placed_folders, placed_group, placed_definition, placed_attribute, place_of}
use Rattle.reg_facts.specs.Sound.{IsSound}
use Rattle.reg_facts.proofs.Places.{cases_option}
use Rattle.reg_facts.proofs.Frames.{place_behind, place_before, place_in}
use Rattle.reg_facts.specs.Rows.{folder_row, group_row, definition_row, attribute_row}
use Rattle.reg_facts.proofs.Standing.{sound_frame}

-- what isn't behind some is sought among them
among : (o : Object) (a b : List Placed) → place_of o b ≡ None → place_of o (a ++ b) ≡ place_of o a
among o a b h = elim (cases_option (place_of o a)) [
  | inl none ↦ place_behind o a b none ∙ h ∙ sym none
  | inr s ↦ place_before o a b s.0 s.1 ∙ sym s.1
]

-- an object of another kind isn't among the rows of a kind
no_row : {R : Type 0} (g : R → Placed) (o : Object) (rows : List R) → ((r : R) → same_object (g r).object o ≡ false) → place_of o (map g rows) ≡ None
no_row g o [] h = refl
no_row g o (r ∷ rows) h = rw (h r) (no_row g o rows h)

no_folder : (o : Object) (rows : List FolderRow) → ((x : ℕ) → same_object (Folder x) o ≡ false) → place_of o (placed_folders rows) ≡ None
no_folder o [] h = refl
no_folder o (row ∷ rows) h =
    elim row.parent as (λ p. place_of o (elim p [ None ↦ placed_folders rows | Some d ↦ (record { object = Folder row.id; folder = d; extension = row.extension }) ∷ placed_folders rows ]) ≡ None) [
      | None ↦ no_folder o rows h
      | Some d ↦ rw (h row.id) (no_folder o rows h)
    ]

-- an object is placed by the first row that has its id
by_row : {R : Type 0} (g : R → Placed) (test : R → Bool) (o : Object) (rows : List R) → ((r : R) → same_object (g r).object o ≡ test r) → place_of o (map g rows) ≡ option_map g (find test rows)
by_row g test o [] h = refl
by_row g test o (r ∷ rows) h = elim (cases_Bool (test r)) [
  | inl t ↦ rw (h r, t) refl
  | inr t ↦ rw (h r, t) (by_row g test o rows h)
]

-- a row that is found passes
pub passes : {R : Type 0} (test : R → Bool) (rows : List R) (r : R) → find test rows ≡ Some r → test r ≡ true
passes test [] r h = cc
passes test (x ∷ rows) r h = elim (cases_Bool (test x)) [
  | inl t ↦ let e : find test (x ∷ rows) ≡ Some x = rw t in let same : x ≡ r = cc in rw (← same) t
  | inr t ↦ let e : find test (x ∷ rows) ≡ find test rows = rw t in passes test rows r (sym e ∙ h)
]

group_among : (id : ℕ) (f : Lists) → place_of (Group id) (placed f) ≡ place_of (Group id) (map placed_group f.groups)
unfolding placed
group_among id f =
    among (Group id) (placed_folders f.folders ++ map placed_group f.groups ++ map placed_definition f.definitions) (map placed_attribute f.attributes) (no_row placed_attribute (Group id) f.attributes (λ r. refl))
    ∙ among (Group id) (placed_folders f.folders ++ map placed_group f.groups) (map placed_definition f.definitions) (no_row placed_definition (Group id) f.definitions (λ r. refl))
    ∙ place_behind (Group id) (placed_folders f.folders) (map placed_group f.groups) (no_folder (Group id) f.folders (λ x. refl))

definition_among : (id : ℕ) (f : Lists) → place_of (Def id) (placed f) ≡ place_of (Def id) (map placed_definition f.definitions)
unfolding placed
definition_among id f =
    among (Def id) (placed_folders f.folders ++ map placed_group f.groups ++ map placed_definition f.definitions) (map placed_attribute f.attributes) (no_row placed_attribute (Def id) f.attributes (λ r. refl))
    ∙ place_behind (Def id) (placed_folders f.folders ++ map placed_group f.groups) (map placed_definition f.definitions)
    (place_behind (Def id) (placed_folders f.folders) (map placed_group f.groups) (no_folder (Def id) f.folders (λ x. refl)) ∙ no_row placed_group (Def id) f.groups (λ r. refl))

attribute_among : (id : ℕ) (f : Lists) → place_of (Attr id) (placed f) ≡ place_of (Attr id) (map placed_attribute f.attributes)
unfolding placed
attribute_among id f =
    place_behind (Attr id) (placed_folders f.folders ++ map placed_group f.groups ++ map placed_definition f.definitions) (map placed_attribute f.attributes)
    (place_behind (Attr id) (placed_folders f.folders ++ map placed_group f.groups) (map placed_definition f.definitions)
    (place_behind (Attr id) (placed_folders f.folders) (map placed_group f.groups) (no_folder (Attr id) f.folders (λ x. refl)) ∙ no_row placed_group (Attr id) f.groups (λ r. refl))
    ∙ no_row placed_definition (Attr id) f.definitions (λ r. refl))

-- no subject is placed
pub subject_nowhere : (id : ℕ) (f : Lists) → place_of (Subject id) (placed f) ≡ None
unfolding placed
subject_nowhere id f =
    place_behind (Subject id) (placed_folders f.folders ++ map placed_group f.groups ++ map placed_definition f.definitions) (map placed_attribute f.attributes)
    (place_behind (Subject id) (placed_folders f.folders ++ map placed_group f.groups) (map placed_definition f.definitions)
    (place_behind (Subject id) (placed_folders f.folders) (map placed_group f.groups) (no_folder (Subject id) f.folders (λ x. refl)) ∙ no_row placed_group (Subject id) f.groups (λ r. refl))
    ∙ no_row placed_definition (Subject id) f.definitions (λ r. refl))
    ∙ no_row placed_attribute (Subject id) f.attributes (λ r. refl)

pub group_none : (id : ℕ) (f : Lists) → None ≡ group_row id f.groups → None ≡ place_of (Group id) (placed f)
group_none id f h = sym (group_among id f ∙ by_row placed_group (λ (row : GroupRow). row.id == id) (Group id) f.groups (λ r. refl) ∙ ap (option_map placed_group) (sym h))

pub group_some : (id : ℕ) (row : GroupRow) (f : Lists) → Some row ≡ group_row id f.groups → Some (record { object = Group id; folder = row.folder; extension = row.extension }) ≡ place_of (Group id) (placed f)
group_some id row f h =
    let same : row.id ≡ id = eqb-true row.id id (passes (λ (r : GroupRow). r.id == id) f.groups row (sym h)) in
    sym (group_among id f ∙ by_row placed_group (λ (r : GroupRow). r.id == id) (Group id) f.groups (λ r. refl) ∙ ap (option_map placed_group) (sym h)
    ∙ ap (λ n. Some (record { object = Group n; folder = row.folder; extension = row.extension })) same)

pub definition_none : (id : ℕ) (f : Lists) → None ≡ definition_row id f.definitions → None ≡ place_of (Def id) (placed f)
definition_none id f h = sym (definition_among id f ∙ by_row placed_definition (λ (row : DefinitionRow). row.id == id) (Def id) f.definitions (λ r. refl) ∙ ap (option_map placed_definition) (sym h))

pub definition_some : (id : ℕ) (row : DefinitionRow) (f : Lists) → Some row ≡ definition_row id f.definitions → Some (record { object = Def id; folder = row.folder; extension = row.extension }) ≡ place_of (Def id) (placed f)
definition_some id row f h =
    let same : row.id ≡ id = eqb-true row.id id (passes (λ (r : DefinitionRow). r.id == id) f.definitions row (sym h)) in
    sym (definition_among id f ∙ by_row placed_definition (λ (r : DefinitionRow). r.id == id) (Def id) f.definitions (λ r. refl) ∙ ap (option_map placed_definition) (sym h)
    ∙ ap (λ n. Some (record { object = Def n; folder = row.folder; extension = row.extension })) same)

pub attribute_none : (id : ℕ) (f : Lists) → None ≡ attribute_row id f.attributes → None ≡ place_of (Attr id) (placed f)
attribute_none id f h = sym (attribute_among id f ∙ by_row placed_attribute (λ (row : AttributeRow). row.id == id) (Attr id) f.attributes (λ r. refl) ∙ ap (option_map placed_attribute) (sym h))

pub attribute_some : (id : ℕ) (row : AttributeRow) (f : Lists) → Some row ≡ attribute_row id f.attributes → Some (record { object = Attr id; folder = row.folder; extension = row.extension }) ≡ place_of (Attr id) (placed f)
attribute_some id row f h =
    let same : row.id ≡ id = eqb-true row.id id (passes (λ (r : AttributeRow). r.id == id) f.attributes row (sym h)) in
    sym (attribute_among id f ∙ by_row placed_attribute (λ (r : AttributeRow). r.id == id) (Attr id) f.attributes (λ r. refl) ∙ ap (option_map placed_attribute) (sym h)
    ∙ ap (λ n. Some (record { object = Attr n; folder = row.folder; extension = row.extension })) same)

-- a folder stands where its row says
pub folder_by_row : (id : ℕ) (r : Option FolderRow) (f : Lists) → IsSound f → r ≡ folder_row id f.folders → place_in id r ≡ place_of (Folder id) (placed f)
folder_by_row id r f s h = sym ((sound_frame f s).links id ∙ ap (place_in id) (sym h))
