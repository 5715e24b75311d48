-- What has a name stands among the objects, and each row's object has a name.
use Rattle.std.proofs.Common.{◌≡◌, ◌==◌, ◌||◌, ◌∷◌, ◌++◌, ℕ, List, [], Bool, true, false, Some, None, inl, inr, refl, sym, ap, ◌∙◌, map}
use Rattle.std.specs.Prelude.{IsSome}
use Rattle.std.specs.List.{AllByRecursion, list_any, find}
use Rattle.std.proofs.lemmas.Bool.{cases_Bool, both_ways, or_cases, or_left, or_right, eq-eqb}
use Rattle.std.proofs.lemmas.List.Folds.{list_any-append}
use Rattle.reg_terms.specs.declared.kinds.Object.{Object}
use Rattle.reg_terms.specs.declared.kinds.Object.TheVariants.{Folder, Group, Def, Attr, Subject}
use Rattle.reg_terms.specs.declared.rows.FolderRow.{FolderRow}
use Rattle.reg_terms.specs.declared.rows.GroupRow.{GroupRow}
use Rattle.reg_terms.specs.declared.rows.DefinitionRow.{DefinitionRow}
use Rattle.reg_terms.specs.declared.rows.AttributeRow.{AttributeRow}
use Rattle.reg_terms.specs.Kinds.{same_object}
use Rattle.reg_facts.specs.Lists.{Lists, root}
use Rattle.reg_facts.specs.Naming.{Placed, placed, placed_folders, placed_group, placed_definition, placed_attribute}
use Rattle.reg_facts.specs.Sound.{BeginsAtRoot, IsSound, is_named}
use Rattle.reg_view.specs.View.{folder_object, group_object, definition_object, attribute_object, objects}
use Rattle.reg_view.proofs.Same.{same_self, same_is}

-- ---- lists

pub all_go : {R : Type 0} (P Q : R → Type 0) → ((r : R) → P r → Q r) → (rows : List R) → AllByRecursion P rows → AllByRecursion Q rows
all_go P Q go [] all = tt
all_go P Q go (r ∷ rows) all = (go r all.0, all_go P Q go rows all.1)

all_map : {R X : Type 0} (P : X → Type 0) (g : R → X) (rows : List R) → AllByRecursion (λ (r : R). P (g r)) rows → AllByRecursion P (map g rows)
all_map P g [] all = tt
all_map P g (r ∷ rows) all = (all.0, all_map P g rows all.1)

all_append : {X : Type 0} (P : X → Type 0) (xs ys : List X) → AllByRecursion P xs → AllByRecursion P ys → AllByRecursion P (xs ++ ys)
all_append P [] ys a b = b
all_append P (x ∷ xs) ys a b = (a.0, all_append P xs ys a.1 b)

-- each is among them all
all_among : {R X : Type 0} (test : R → X → Bool) (g : R → X) → ((r : R) → test r (g r) ≡ true) → (rows : List R) → AllByRecursion (λ (r : R). list_any (test r) (map g rows) ≡ true) rows
all_among test g is [] = tt
all_among {R} test g is (r ∷ rows) = (
  or_left (test r (g r)) (list_any (test r) (map g rows)) (is r),
  all_go (λ (s : R). list_any (test s) (map g rows) ≡ true) (λ (s : R). list_any (test s) (g r ∷ map g rows) ≡ true) (λ s h. or_right (test s (g r)) (list_any (test s) (map g rows)) h) rows (all_among test g is rows),
)

-- the first that passes
pub row_there : {R : Type 0} (object : R → Object) (o : Object) (rows : List R) → list_any (λ (x : Object). same_object x o) (map object rows) ≡ true → (r : R) × (find (λ (r : R). same_object (object r) o) rows ≡ Some r)
row_there object o [] h = absurd (both_ways false refl h)
row_there object o (r ∷ rows) h = elim (cases_Bool (same_object (object r) o)) [
  | inl t ↦ (r, rw t refl)
  | inr t ↦ let found = row_there object o rows (rw t at h) in (found.0, rw t found.1)
]

off : {R : Type 0} (object : R → Object) (o : Object) → ((r : R) → same_object (object r) o ≡ false) → (rows : List R) → list_any (λ (x : Object). same_object x o) (map object rows) ≡ false
off object o differ [] = refl
off object o differ (r ∷ rows) = rw (differ r) (off object o differ rows)

-- ---- what is placed

abbrev this : Object → Placed → Bool
this o p = same_object p.object o

folders_any : (o : Object) (rows : List FolderRow) → list_any (this o) (placed_folders rows) ≡ true → list_any (λ (x : Object). same_object x o) (map folder_object rows) ≡ true
folders_any o [] h = h
folders_any o (row ∷ rows) h = elim row.parent as (λ parent. row.parent ≡ parent → list_any (λ (x : Object). same_object x o) (map folder_object (row ∷ rows)) ≡ true) [
  | None ↦ λ at. or_right (same_object (Folder row.id) o) _ (folders_any o rows (rw at at h))
  | Some p ↦ λ at. elim (cases_Bool (same_object (Folder row.id) o)) [
    | inl t ↦ or_left (same_object (Folder row.id) o) _ t
    | inr t ↦ or_right (same_object (Folder row.id) o) _ (folders_any o rows (rw (at, t) at h))
  ]
] refl

rows_any : {R : Type 0} (o : Object) (place : R → Placed) (object : R → Object) → ((r : R) → (place r).object ≡ object r) → (rows : List R) → list_any (this o) (map place rows) ≡ list_any (λ (x : Object). same_object x o) (map object rows)
rows_any o place object is [] = refl
rows_any o place object is (r ∷ rows) = rw (is r, rows_any o place object is rows) refl

four : {X : Type 0} (test : X → Bool) (a b c d : List X) → list_any test (a ++ b ++ c ++ d) ≡ (((list_any test a || list_any test b) || list_any test c) || list_any test d)
four test a b c d = rw (list_any-append test ((a ++ b) ++ c) d, list_any-append test (a ++ b) c, list_any-append test a b) refl

-- the root stands first
root_first : (made : ℕ) (rows : List FolderRow) → BeginsAtRoot made rows → list_any (λ (x : Object). same_object x (Folder root)) (map folder_object rows) ≡ true
root_first made [] h = absurd h
root_first made (row ∷ rows) h = rw h.0 refl

-- what has a name is one of the objects
pub among_objects : (o : Object) (f : Lists) → IsSound f → is_named o f ≡ true → list_any (λ (x : Object). same_object x o) (objects f) ≡ true
unfolding placed
among_objects o f s h =
    let test : Object → Bool = λ x. same_object x o in
    let a = map folder_object f.folders in
    let b = map group_object f.groups in
    let c = map definition_object f.definitions in
    let d = map attribute_object f.attributes in
    let groups = rows_any o placed_group group_object (λ r. refl) f.groups in
    let definitions = rows_any o placed_definition definition_object (λ r. refl) f.definitions in
    let attributes = rows_any o placed_attribute attribute_object (λ r. refl) f.attributes in
    four test a b c d ∙ (elim (or_cases (same_object o (Folder root)) (list_any (this o) (placed f)) h) [
      | inl t ↦
          let is : o ≡ Folder root = same_is o (Folder root) t in
          let first : list_any test a ≡ true = ap (λ y. list_any (λ (x : Object). same_object x y) a) is ∙ root_first f.made.folders f.folders s.folders in
          or_left _ (list_any test d) (or_left _ (list_any test c) (or_left _ (list_any test b) first))
      | inr t ↦
          let all = sym (four (this o) (placed_folders f.folders) (map placed_group f.groups) (map placed_definition f.definitions) (map placed_attribute f.attributes)) ∙ t in
          elim (or_cases _ (list_any (this o) (map placed_attribute f.attributes)) all) [
            | inr w ↦ or_right _ (list_any test d) (sym attributes ∙ w)
            | inl u ↦ or_left _ (list_any test d) (elim (or_cases _ (list_any (this o) (map placed_definition f.definitions)) u) [
              | inr w ↦ or_right _ (list_any test c) (sym definitions ∙ w)
              | inl v ↦ or_left _ (list_any test c) (elim (or_cases _ (list_any (this o) (map placed_group f.groups)) v) [
                | inr w ↦ or_right _ (list_any test b) (sym groups ∙ w)
                | inl w ↦ or_left _ (list_any test b) (folders_any o f.folders w)
              ])
            ])
          ]
    ])

without : (a : Bool) → (a || false) ≡ true → a ≡ true
without true h = refl
without false h = h

-- a folder, a group, a definition, an attribute that has a name has a row
module _ (f : Lists) (s : IsSound f) where
  abbrev any : {R : Type 0} → (R → Object) → List R → Object → Bool
  any object rows o = list_any (λ (x : Object). same_object x o) (map object rows)

  parts : (o : Object) → is_named o f ≡ true → (((any folder_object f.folders o || any group_object f.groups o) || any definition_object f.definitions o) || any attribute_object f.attributes o) ≡ true
  parts o h = sym (four (λ (x : Object). same_object x o) (map folder_object f.folders) (map group_object f.groups) (map definition_object f.definitions) (map attribute_object f.attributes)) ∙ among_objects o f s h

  pub folder_there : (d : ℕ) → is_named (Folder d) f ≡ true → (r : FolderRow) × (find (λ (r : FolderRow). r.id == d) f.folders ≡ Some r)
  folder_there d h =
      let p = parts (Folder d) h in
      row_there folder_object (Folder d) f.folders (without _ (without _ (without _ (rw (off group_object (Folder d) (λ r. refl) f.groups, off definition_object (Folder d) (λ r. refl) f.definitions, off attribute_object (Folder d) (λ r. refl) f.attributes) at p))))

  pub group_there : (g : ℕ) → is_named (Group g) f ≡ true → (r : GroupRow) × (find (λ (r : GroupRow). r.id == g) f.groups ≡ Some r)
  group_there g h =
      let p = parts (Group g) h in
      row_there group_object (Group g) f.groups (without _ (without _ (rw (off folder_object (Group g) (λ r. refl) f.folders, off definition_object (Group g) (λ r. refl) f.definitions, off attribute_object (Group g) (λ r. refl) f.attributes) at p)))

  pub definition_there : (a : ℕ) → is_named (Def a) f ≡ true → (r : DefinitionRow) × (find (λ (r : DefinitionRow). r.id == a) f.definitions ≡ Some r)
  definition_there a h =
      let p = parts (Def a) h in
      row_there definition_object (Def a) f.definitions (without _ (rw (off folder_object (Def a) (λ r. refl) f.folders, off group_object (Def a) (λ r. refl) f.groups, off attribute_object (Def a) (λ r. refl) f.attributes) at p))

  pub attribute_there : (a : ℕ) → is_named (Attr a) f ≡ true → (r : AttributeRow) × (find (λ (r : AttributeRow). r.id == a) f.attributes ≡ Some r)
  attribute_there a h =
      let p = parts (Attr a) h in
      row_there attribute_object (Attr a) f.attributes (rw (off folder_object (Attr a) (λ r. refl) f.folders, off group_object (Attr a) (λ r. refl) f.groups, off definition_object (Attr a) (λ r. refl) f.definitions) at p)

  -- a subject has no name
  pub subject_unnamed : (s : ℕ) → is_named (Subject s) f ≡ true → ⊥
  subject_unnamed x h =
      let p = parts (Subject x) h in
      both_ways false refl (rw (off folder_object (Subject x) (λ r. refl) f.folders, off group_object (Subject x) (λ r. refl) f.groups, off definition_object (Subject x) (λ r. refl) f.definitions, off attribute_object (Subject x) (λ r. refl) f.attributes) at p)

  -- an object that has a name is the one of the objects that it is
  the_first : (o : Object) (os : List Object) → list_any (λ (x : Object). same_object x o) os ≡ true → find (λ (x : Object). same_object x o) os ≡ Some o
  the_first o [] h = absurd (both_ways false refl h)
  the_first o (x ∷ os) h = elim (cases_Bool (same_object x o)) [
    | inl t ↦ rw t (ap (λ y. Some y) (same_is x o t))
    | inr t ↦ rw t (the_first o os (rw t at h))
  ]

  pub object_there : (o : Object) → is_named o f ≡ true → find (λ (x : Object). same_object x o) (objects f) ≡ Some o
  object_there o h = the_first o (objects f) (among_objects o f s h)

-- ---- each row's object has a name

abbrev Named : {R : Type 0} → (R → Object) → Lists → R → Type 0
Named object f r = is_named (object r) f ≡ true

module _ (f : Lists) where
  abbrev in_all : Object → Bool
  in_all o = list_any (this o) (placed f)

  named_by : (o : Object) → in_all o ≡ true → is_named o f ≡ true
  named_by o h = or_right (same_object o (Folder root)) (in_all o) h

  all_placed : {R : Type 0} (place : R → Placed) (object : R → Object) → ((r : R) → (place r).object ≡ object r) → (rows : List R) → ((o : Object) → list_any (this o) (map place rows) ≡ true → in_all o ≡ true) → AllByRecursion (Named object f) rows
  all_placed place object is rows lift = all_go _ (Named object f) (λ r h. named_by (object r) (lift (object r) h)) rows (all_among (λ r p. this (object r) p) place (λ r. ap (λ o. same_object o (object r)) (is r) ∙ same_self (object r)) rows)

  lift : (o : Object) → (((list_any (this o) (placed_folders f.folders) || list_any (this o) (map placed_group f.groups)) || list_any (this o) (map placed_definition f.definitions)) || list_any (this o) (map placed_attribute f.attributes)) ≡ true → in_all o ≡ true
  unfolding placed
  lift o h = four (this o) (placed_folders f.folders) (map placed_group f.groups) (map placed_definition f.definitions) (map placed_attribute f.attributes) ∙ h

  pub groups_named : AllByRecursion (Named group_object f) f.groups
  groups_named = all_placed placed_group group_object (λ r. refl) f.groups (λ o h. lift o (or_left _ _ (or_left _ _ (or_right _ _ h))))

  pub definitions_named : AllByRecursion (Named definition_object f) f.definitions
  definitions_named = all_placed placed_definition definition_object (λ r. refl) f.definitions (λ o h. lift o (or_left _ _ (or_right _ _ h)))

  pub attributes_named : AllByRecursion (Named attribute_object f) f.attributes
  attributes_named = all_placed placed_attribute attribute_object (λ r. refl) f.attributes (λ o h. lift o (or_right _ _ h))

  -- folders that stand in folders
  in_folders : (rows : List FolderRow) → AllByRecursion (λ (r : FolderRow). IsSome r.parent) rows → AllByRecursion (λ (r : FolderRow). list_any (this (Folder r.id)) (placed_folders rows) ≡ true) rows
  in_folders [] all = tt
  in_folders (row ∷ rows) all = elim row.parent as (λ parent. row.parent ≡ parent → AllByRecursion (λ (r : FolderRow). list_any (this (Folder r.id)) (placed_folders (row ∷ rows)) ≡ true) (row ∷ rows)) [
    | None ↦ λ at. absurd (both_ways false refl (rw at at all.0))
    | Some p ↦ λ at.
        let here : Placed = record { object = Folder row.id; folder = p; extension = row.extension } in
        let same : placed_folders (row ∷ rows) ≡ here ∷ placed_folders rows = rw at refl in
        let by : (o : Object) → list_any (this o) (here ∷ placed_folders rows) ≡ true → list_any (this o) (placed_folders (row ∷ rows)) ≡ true = λ o h. ap (λ ps. list_any (this o) ps) same ∙ h in (
          by (Folder row.id) (or_left (row.id == row.id) (list_any (this (Folder row.id)) (placed_folders rows)) (eq-eqb row.id row.id refl)),
          all_go (λ (r : FolderRow). list_any (this (Folder r.id)) (placed_folders rows) ≡ true) (λ (r : FolderRow). list_any (this (Folder r.id)) (placed_folders (row ∷ rows)) ≡ true) (λ r h. by (Folder r.id) (or_right (row.id == r.id) (list_any (this (Folder r.id)) (placed_folders rows)) h)) rows (in_folders rows all.1),
        )
  ] refl

  folders_from : (rows : List FolderRow) → f.folders ≡ rows → BeginsAtRoot f.made.folders rows → AllByRecursion (Named folder_object f) rows
  folders_from [] at h = absurd h
  folders_from (row ∷ rows) at h =
      let same : placed_folders f.folders ≡ placed_folders rows = ap placed_folders at ∙ rw h.0 refl in (
        rw h.0 refl,
        all_go (λ (r : FolderRow). list_any (this (Folder r.id)) (placed_folders rows) ≡ true) (Named folder_object f) (λ r t. named_by (Folder r.id) (lift (Folder r.id) (or_left _ _ (or_left _ _ (or_left _ _ (ap (λ ps. list_any (this (Folder r.id)) ps) same ∙ t)))))) rows (in_folders rows h.2),
      )

  pub folders_named : IsSound f → AllByRecursion (Named folder_object f) f.folders
  folders_named s = folders_from f.folders refl s.folders

  pub objects_named : IsSound f → AllByRecursion (λ (o : Object). is_named o f ≡ true) (objects f)
  objects_named s =
      let P : Object → Type 0 = λ o. is_named o f ≡ true in
      all_append P ((map folder_object f.folders ++ map group_object f.groups) ++ map definition_object f.definitions) (map attribute_object f.attributes)
      (all_append P (map folder_object f.folders ++ map group_object f.groups) (map definition_object f.definitions)
      (all_append P (map folder_object f.folders) (map group_object f.groups) (all_map P folder_object f.folders (folders_named s)) (all_map P group_object f.groups groups_named))
      (all_map P definition_object f.definitions definitions_named))
      (all_map P attribute_object f.attributes attributes_named)
