-- What is true of the attributes of every history: at the start, and after each event that suits.
use Rattle.std.proofs.Common.{◌≡◌, ◌≤◌, ◌<◌, ◌==◌, ◌+◌, ◌++◌, ◌∙◌, ℕ, zero, suc, List, [], ◌∷◌, Bool, true, false, not, Option, Some, None, IsSome, inl, inr, refl, sym, ap, subst, map, filter, length, arith}
use Rattle.std.specs.Prelude.{if◌then◌else◌}
use Rattle.std.specs.List.{AllByRecursion, find, list_any, position, remove}
use Rattle.std.proofs.lemmas.Bool.{cases_Bool, or_parts, both_ways, ne_eqb, eqb-true, eqb-false}
use Rattle.reg_terms.specs.Kinds.{same_object}
use Rattle.reg_terms.specs.Limits.{max_values}
use Rattle.reg_terms.specs.Values.{with_value, without_value, without_first, same_value}
use Rattle.reg_terms.specs.declared.event.Event.{Event}
use Rattle.reg_terms.specs.declared.event.Event.TheVariants.{FolderMade, FolderRenamed, FolderMoved, FolderGone, SubjectMade, GroupMade, GroupRenamed, GroupMoved, GroupGone, DefinitionMade, DefinitionGone, AttributeMade, AttributeGone, AssignMade, AssignGone, ValueAdded, ValueRemoved}
use Rattle.reg_terms.specs.declared.kinds.AttrValue.{AttrValue}
use Rattle.reg_terms.specs.declared.kinds.Object.{Object}
use Rattle.reg_terms.specs.declared.kinds.Object.TheVariants.{Folder, Group, Def, Attr, Subject}
use Rattle.reg_terms.specs.declared.rows.AssignRow.{AssignRow}
use Rattle.reg_terms.specs.declared.rows.AttributeRow.{AttributeRow}
use Rattle.reg_terms.specs.declared.rows.DefinitionRow.{DefinitionRow}
use Rattle.reg_terms.specs.declared.rows.FolderRow.{FolderRow}
use Rattle.reg_facts.specs.Assigned.{OwnerStands, AssignStands, AreAssigned}
use Rattle.reg_facts.specs.Attributes.{attribute_row, definition_row, has_attributes, is_assigned, value_count}
use Rattle.reg_facts.specs.Edits.{folder_renamed, folder_moved, group_renamed, group_moved}
use Rattle.reg_facts.specs.Events.{happened}
use Rattle.reg_facts.specs.Lists.{Lists, start}
use Rattle.reg_facts.specs.Naming.{placed_folders}
use Rattle.reg_facts.specs.Sound.{AscendFrom, Ascend, has_group, has_subject, is_named}
use Rattle.reg_facts.specs.Suiting.{Suits}
use Rattle.reg_facts.proofs.Edited.{ascend_push, ascend_map, ascend_filter}
use Rattle.reg_facts.proofs.Held.{MoreSubjects, MoreGroups, subject_more, same_subjects, same_groups}
use Rattle.reg_facts.proofs.Joined.{all_changed, among_more, among_changed, still}
use Rattle.reg_facts.proofs.NamedFolders.{is_folder, stands_among, MoreFolders, named_is, among_less, root_or, folder_more, folder_changed, same_folders}
use Rattle.reg_facts.proofs.Places.{all_push, all_filter}
use Rattle.reg_facts.proofs.Sounding.{group_renamed_id, group_moved_id, folder_renamed_id, folder_moved_id, folder_renamed_up, folder_moved_up}

pub start_assigned : AreAssigned start
start_assigned = record { ascend = omega arith; defined = tt; stand = tt; few = omega arith }

-- ---- what stands among more and fewer rows

found_more : {R : Type 0} (test : R → Bool) (rows : List R) (row : R) → IsSome (find test rows) → IsSome (find test (rows ++ row ∷ []))
found_more test [] row h = absurd (both_ways false refl h)
found_more test (r ∷ rows) row h = elim (cases_Bool (test r)) [
  | inl t ↦ rw t refl
  | inr t ↦ rw t (found_more test rows row (rw t at h))
]

-- the rows that pass a test are still found
found_less : {R : Type 0} (test keep : R → Bool) (rows : List R) → ((r : R) → test r ≡ true → keep r ≡ true) → IsSome (find test rows) → IsSome (find test (filter keep rows))
found_less test keep [] stays h = h
found_less test keep (r ∷ rows) stays h = elim (cases_Bool (test r)) [
  | inl t ↦ rw (stays r t) (rw t refl)
  | inr t ↦ elim (cases_Bool (keep r)) [
    | inl k ↦ rw k (rw t (found_less test keep rows stays (rw t at h)))
    | inr k ↦ rw k (found_less test keep rows stays (rw t at h))
  ]
]

-- a row of another id isn't the one that goes
not_gone : (n id x : ℕ) → (n == id) ≡ false → (x == n) ≡ true → not (x == id) ≡ true
not_gone n id x other same = rw (ne_eqb x id (λ e. eqb-false n id other (sym (eqb-true x n same) ∙ e))) refl

abbrev MoreAttributes : List AttributeRow → List AttributeRow → Type 0
MoreAttributes old new = (a : ℕ) → IsSome (attribute_row a old) → IsSome (attribute_row a new)

same_attributes : (rows : List AttributeRow) → MoreAttributes rows rows
same_attributes rows a h = h

-- ---- what an assignment speaks of

pub owner_more : (f g : Lists) → MoreFolders f.folders g.folders → MoreSubjects f.subjects g.subjects → MoreGroups f.groups g.groups → (o : Object) → OwnerStands f o → OwnerStands g o
owner_more f g folders subjects groups (Folder d) h = named_is d g ∙ folders d (sym (named_is d f) ∙ h)
owner_more f g folders subjects groups (Group x) h = groups x h
owner_more f g folders subjects groups (Def a) h = h
owner_more f g folders subjects groups (Attr a) h = h
owner_more f g folders subjects groups (Subject s) h = subjects s h

-- where what stood stands, assignments speak of what stands
stand_more : (f g : Lists) (rows : List AssignRow) → MoreFolders f.folders g.folders → MoreSubjects f.subjects g.subjects → MoreGroups f.groups g.groups → MoreAttributes f.attributes g.attributes
    → AllByRecursion (λ (row : AssignRow). AssignStands f row) rows → AllByRecursion (λ (row : AssignRow). AssignStands g row) rows
stand_more f g rows folders subjects groups attributes h = all_changed (λ (row : AssignRow). AssignStands f row) (λ (row : AssignRow). AssignStands g row)
    (λ row stands. record { attribute = attributes row.attribute stands.attribute; owner = owner_more f g folders subjects groups row.owner stands.owner }) rows h

assigned_still : (f g : Lists) → MoreFolders f.folders g.folders → MoreSubjects f.subjects g.subjects → MoreGroups f.groups g.groups → g.definitions ≡ f.definitions → g.attributes ≡ f.attributes → g.assigns ≡ f.assigns → g.made.assigns ≡ f.made.assigns
    → AreAssigned f → AreAssigned g
assigned_still f g folders subjects groups definitions attributes assigns made h = record {
  ascend = subst (λ rows. Ascend g.made.assigns (map (λ (row : AssignRow). row.id) rows)) (sym assigns) (subst (λ n. Ascend n (map (λ (row : AssignRow). row.id) f.assigns)) (sym made) h.ascend);
  defined = subst (λ rows. AllByRecursion (λ (row : AttributeRow). IsSome (definition_row row.definition g.definitions)) rows) (sym attributes)
      (subst (λ ds. AllByRecursion (λ (row : AttributeRow). IsSome (definition_row row.definition ds)) f.attributes) (sym definitions) h.defined);
  stand = subst (λ rows. AllByRecursion (λ (row : AssignRow). AssignStands g row) rows) (sym assigns)
      (stand_more f g f.assigns folders subjects groups (λ a there. subst (λ rows. IsSome (attribute_row a rows)) (sym attributes) there) h.stand);
  few = subst (λ rows. value_count rows ≤ max_values) (sym assigns) h.few;
}

-- what attributes and assignments speak of may be the same
same_assigned : (f g : Lists) → g.folders ≡ f.folders → g.subjects ≡ f.subjects → g.groups ≡ f.groups → g.definitions ≡ f.definitions → g.attributes ≡ f.attributes → g.assigns ≡ f.assigns → g.made.assigns ≡ f.made.assigns → AreAssigned f → AreAssigned g
same_assigned f g folders subjects groups definitions attributes assigns made h = assigned_still f g
    (λ d stands. subst (λ fs. stands_among d fs ≡ true) (sym folders) stands)
    (λ s stands. subst (λ ss. has_subject s ss ≡ true) (sym subjects) stands)
    (λ x stands. subst (λ gs. has_group x gs ≡ true) (sym groups) stands)
    definitions attributes assigns made h

-- ---- how many values stand

values_push : (rows : List AssignRow) (row : AssignRow) → row.values ≡ [] → value_count (rows ++ row ∷ []) ≡ value_count rows
values_push [] row none = rw none refl
values_push (r ∷ rows) row none = ap (λ n. length r.values + n) (values_push rows row none)

values_filter : (test : AssignRow → Bool) (rows : List AssignRow) → value_count (filter test rows) ≤ value_count rows
values_filter test [] = omega arith
values_filter test (r ∷ rows) = elim (cases_Bool (test r)) [
  | inl t ↦ rw t (let rest = values_filter test rows in omega (arith, rest))
  | inr t ↦ rw t (let rest = values_filter test rows in omega (arith, rest))
]

longer : {X : Type 0} (xs : List X) (x : X) → length (xs ++ x ∷ []) ≡ length xs + 1
longer [] x = refl
longer (y ∷ xs) x = let rest = longer xs x in omega (arith, rest)

with_yes : (id : ℕ) (v : AttrValue) (row : AssignRow) → (row.id == id) ≡ true → with_value id v row ≡ record row { values = row.values ++ v ∷ [] }
with_yes id v row t = rw t

with_no : (id : ℕ) (v : AttrValue) (row : AssignRow) → (row.id == id) ≡ false → with_value id v row ≡ row
with_no id v row t = rw t

-- behind an id no row has it
values_past : (id floor top : ℕ) (v : AttrValue) (rows : List AssignRow) → id ≤ floor → AscendFrom floor top (map (λ (row : AssignRow). row.id) rows) → value_count (map (with_value id v) rows) ≡ value_count rows
values_past id floor top v [] low h = refl
values_past id floor top v (r ∷ rows) low h =
    let above = h.0 in
    let apart : (r.id == id) ≡ false = ne_eqb r.id id (λ e. absurd (omega (arith, e, low, above))) in
    ap (λ (x : AssignRow). length x.values + value_count (map (with_value id v) rows)) (with_no id v r apart)
    ∙ ap (λ n. length r.values + n) (values_past id r.id top v rows (omega (arith, low, above)) h.1)

values_added : (id floor top : ℕ) (v : AttrValue) (rows : List AssignRow) → AscendFrom floor top (map (λ (row : AssignRow). row.id) rows) → value_count (map (with_value id v) rows) ≤ value_count rows + 1
values_added id floor top v [] h = omega arith
values_added id floor top v (r ∷ rows) h = elim (cases_Bool (r.id == id)) [
  | inl t ↦
      let same = eqb-true r.id id t in
      let rest = values_past id r.id top v rows (omega (arith, same)) h.1 in
      let here = ap (λ (x : AssignRow). length x.values) (with_yes id v r t) ∙ longer r.values v in
      omega (arith, rest, here)
  | inr t ↦
      let rest = values_added id r.id top v rows h.1 in
      let here = ap (λ (x : AssignRow). length x.values) (with_no id v r t) in
      omega (arith, rest, here)
]

shorter : {X : Type 0} (xs : List X) (n : ℕ) → length (remove xs n) ≤ length xs
shorter [] zero = omega arith
shorter [] (suc n) = omega arith
shorter (x ∷ xs) zero = omega arith
shorter (x ∷ xs) (suc n) = let rest = shorter xs n in omega (arith, rest)

first_less : (v : AttrValue) (xs : List AttrValue) → length (without_first v xs) ≤ length xs
first_less v xs = go (position (λ x. same_value x v) xs)
  where
    go : (found : Option ℕ) → length {A = AttrValue} (elim found [ None ↦ xs | Some n ↦ remove xs n ]) ≤ length xs
    go None = omega arith
    go (Some n) = shorter xs n

fewer : (id : ℕ) (v : AttrValue) (row : AssignRow) → length (without_value id v row).values ≤ length row.values
fewer id v row = elim (cases_Bool (row.id == id)) [
  | inl t ↦ rw t (first_less v row.values)
  | inr t ↦ rw t (omega arith)
]

values_removed : (id : ℕ) (v : AttrValue) (rows : List AssignRow) → value_count (map (without_value id v) rows) ≤ value_count rows
values_removed id v [] = omega arith
values_removed id v (r ∷ rows) =
    let rest = values_removed id v rows in
    let here = fewer id v r in
    omega (arith, rest, here)

-- ---- an assignment with other values

pub with_id : (id : ℕ) (v : AttrValue) (row : AssignRow) → (with_value id v row).id ≡ row.id
with_id id v row = elim (cases_Bool (row.id == id)) [ inl t ↦ rw t refl | inr t ↦ rw t refl ]

with_attribute : (id : ℕ) (v : AttrValue) (row : AssignRow) → (with_value id v row).attribute ≡ row.attribute
with_attribute id v row = elim (cases_Bool (row.id == id)) [ inl t ↦ rw t refl | inr t ↦ rw t refl ]

with_owner : (id : ℕ) (v : AttrValue) (row : AssignRow) → (with_value id v row).owner ≡ row.owner
with_owner id v row = elim (cases_Bool (row.id == id)) [ inl t ↦ rw t refl | inr t ↦ rw t refl ]

pub without_id : (id : ℕ) (v : AttrValue) (row : AssignRow) → (without_value id v row).id ≡ row.id
without_id id v row = elim (cases_Bool (row.id == id)) [ inl t ↦ rw t refl | inr t ↦ rw t refl ]

without_attribute : (id : ℕ) (v : AttrValue) (row : AssignRow) → (without_value id v row).attribute ≡ row.attribute
without_attribute id v row = elim (cases_Bool (row.id == id)) [ inl t ↦ rw t refl | inr t ↦ rw t refl ]

without_owner : (id : ℕ) (v : AttrValue) (row : AssignRow) → (without_value id v row).owner ≡ row.owner
without_owner id v row = elim (cases_Bool (row.id == id)) [ inl t ↦ rw t refl | inr t ↦ rw t refl ]

stand_changed : (f : Lists) (change : AssignRow → AssignRow) (rows : List AssignRow) → ((r : AssignRow) → (change r).attribute ≡ r.attribute) → ((r : AssignRow) → (change r).owner ≡ r.owner)
    → AllByRecursion (λ (row : AssignRow). AssignStands f row) rows → AllByRecursion (λ (row : AssignRow). AssignStands f row) (map change rows)
stand_changed f change [] attributes owners h = tt
stand_changed f change (r ∷ rows) attributes owners h = (
  record { attribute = subst (λ a. IsSome (attribute_row a f.attributes)) (sym (attributes r)) h.0.attribute; owner = subst (λ o. OwnerStands f o) (sym (owners r)) h.0.owner },
  stand_changed f change rows attributes owners h.1,
)

-- other assignments, of which the same holds
other_assigns : (f : Lists) (rows : List AssignRow) (made : ℕ) → Ascend made (map (λ (row : AssignRow). row.id) rows) → AllByRecursion (λ (row : AssignRow). AssignStands f row) rows → value_count rows ≤ max_values
    → AreAssigned f → AreAssigned (record f { assigns = rows; made = record f.made { assigns = made } })
other_assigns f rows made ascend stand few h = record {
  ascend = ascend;
  defined = h.defined;
  stand = stand_more f (record f { assigns = rows; made = record f.made { assigns = made } }) rows (same_folders f.folders) (same_subjects f.subjects) (same_groups f.groups) (same_attributes f.attributes) stand;
  few = few;
}

-- ---- a folder or a group less, and what is assigned to it

pub owner_less_folder : (id : ℕ) (f : Lists) (o : Object) → same_object o (Folder id) ≡ false → OwnerStands f o → OwnerStands (happened (FolderGone id) f) o
owner_less_folder id f (Folder d) other h =
    named_is d (happened (FolderGone id) f) ∙ root_or d (list_any (is_folder d) (placed_folders f.folders)) (list_any (is_folder d) (placed_folders (filter (λ (row : FolderRow). not (row.id == id)) f.folders))) (among_less d id f.folders other) (sym (named_is d f) ∙ h)
owner_less_folder id f (Group x) other h = h
owner_less_folder id f (Def a) other h = h
owner_less_folder id f (Attr a) other h = h
owner_less_folder id f (Subject s) other h = h

pub owner_less_group : (id : ℕ) (f : Lists) (o : Object) → same_object o (Group id) ≡ false → OwnerStands f o → OwnerStands (happened (GroupGone id) f) o
owner_less_group id f (Folder d) other h = named_is d (happened (GroupGone id) f) ∙ (sym (named_is d f) ∙ h)
owner_less_group id f (Group x) other h = still id x f.groups other h
owner_less_group id f (Def a) other h = h
owner_less_group id f (Attr a) other h = h
owner_less_group id f (Subject s) other h = h

-- assignments to others than an object speak of what stands without it
stand_off : (f g : Lists) (o : Object) (rows : List AssignRow) → ((x : Object) → same_object x o ≡ false → OwnerStands f x → OwnerStands g x) → MoreAttributes f.attributes g.attributes
    → AllByRecursion (λ (row : AssignRow). AssignStands f row) rows → AllByRecursion (λ (row : AssignRow). AssignStands g row) (filter (λ (row : AssignRow). not (same_object row.owner o)) rows)
stand_off f g o [] owners attributes h = tt
stand_off f g o (row ∷ rows) owners attributes h = elim (cases_Bool (same_object row.owner o)) [
  | inl t ↦ rw t (stand_off f g o rows owners attributes h.1)
  | inr t ↦ rw t (record { attribute = attributes row.attribute h.0.attribute; owner = owners row.owner t h.0.owner }, stand_off f g o rows owners attributes h.1)
]

off_assigned : (f g : Lists) (o : Object) → ((x : Object) → same_object x o ≡ false → OwnerStands f x → OwnerStands g x) → AllByRecursion (λ (row : AttributeRow). IsSome (definition_row row.definition g.definitions)) g.attributes → g.attributes ≡ f.attributes
    → g.assigns ≡ filter (λ (row : AssignRow). not (same_object row.owner o)) f.assigns → g.made.assigns ≡ f.made.assigns → AreAssigned f → AreAssigned g
off_assigned f g o owners defined attributes assigns made h =
    let off = λ (row : AssignRow). not (same_object row.owner o) in
    record {
      ascend = subst (λ rows. Ascend g.made.assigns (map (λ (row : AssignRow). row.id) rows)) (sym assigns)
          (subst (λ n. Ascend n (map (λ (row : AssignRow). row.id) (filter off f.assigns))) (sym made) (ascend_filter (λ (row : AssignRow). row.id) off 0 f.made.assigns f.assigns h.ascend));
      defined = defined;
      stand = subst (λ rows. AllByRecursion (λ (row : AssignRow). AssignStands g row) rows) (sym assigns)
          (stand_off f g o f.assigns owners (λ a there. subst (λ rows. IsSome (attribute_row a rows)) (sym attributes) there) h.stand);
      few = subst (λ rows. value_count rows ≤ max_values) (sym assigns) (let less = values_filter off f.assigns in let most = h.few in omega (arith, less, most));
    }

-- ---- definitions and attributes

defined_more : (ds : List DefinitionRow) (new : DefinitionRow) (rows : List AttributeRow) → AllByRecursion (λ (row : AttributeRow). IsSome (definition_row row.definition ds)) rows → AllByRecursion (λ (row : AttributeRow). IsSome (definition_row row.definition (ds ++ new ∷ []))) rows
defined_more ds new rows h = all_changed (λ (row : AttributeRow). IsSome (definition_row row.definition ds)) (λ (row : AttributeRow). IsSome (definition_row row.definition (ds ++ new ∷ [])))
    (λ row there. found_more (λ (d : DefinitionRow). d.id == row.definition) ds new there) rows h

defined_less : (id : ℕ) (ds : List DefinitionRow) (rows : List AttributeRow) → has_attributes id rows ≡ false → AllByRecursion (λ (row : AttributeRow). IsSome (definition_row row.definition ds)) rows
    → AllByRecursion (λ (row : AttributeRow). IsSome (definition_row row.definition (filter (λ (d : DefinitionRow). not (d.id == id)) ds))) rows
defined_less id ds [] unused h = tt
defined_less id ds (row ∷ rows) unused h =
    let parts = or_parts (row.definition == id) (has_attributes id rows) unused in (
      found_less (λ (d : DefinitionRow). d.id == row.definition) (λ (d : DefinitionRow). not (d.id == id)) ds (λ d same. not_gone row.definition id d.id parts.0 same) h.0,
      defined_less id ds rows parts.1 h.1,
    )

stand_less : (f g : Lists) (id : ℕ) (rows : List AssignRow) → g.attributes ≡ filter (λ (row : AttributeRow). not (row.id == id)) f.attributes → ((o : Object) → OwnerStands f o → OwnerStands g o) → is_assigned id rows ≡ false
    → AllByRecursion (λ (row : AssignRow). AssignStands f row) rows → AllByRecursion (λ (row : AssignRow). AssignStands g row) rows
stand_less f g id [] attributes owners unused h = tt
stand_less f g id (row ∷ rows) attributes owners unused h =
    let parts = or_parts (row.attribute == id) (is_assigned id rows) unused in (
      record {
        attribute = subst (λ as'. IsSome (attribute_row row.attribute as')) (sym attributes)
            (found_less (λ (a : AttributeRow). a.id == row.attribute) (λ (a : AttributeRow). not (a.id == id)) f.attributes (λ a same. not_gone row.attribute id a.id parts.0 same) h.0.attribute);
        owner = owners row.owner h.0.owner;
      },
      stand_less f g id rows attributes owners parts.1 h.1,
    )

definition_made_assigned : (row : DefinitionRow) (f : Lists) → AreAssigned f → AreAssigned (happened (DefinitionMade row) f)
definition_made_assigned row f h = record {
  ascend = h.ascend;
  defined = defined_more f.definitions row f.attributes h.defined;
  stand = stand_more f (happened (DefinitionMade row) f) f.assigns (same_folders f.folders) (same_subjects f.subjects) (same_groups f.groups) (same_attributes f.attributes) h.stand;
  few = h.few;
}

definition_gone_assigned : (id : ℕ) (f : Lists) → Suits (DefinitionGone id) f → AreAssigned f → AreAssigned (happened (DefinitionGone id) f)
definition_gone_assigned id f suits h =
    let g = happened (DefinitionGone id) f in
    off_assigned f g (Def id) (λ o other there. owner_more f g (same_folders f.folders) (same_subjects f.subjects) (same_groups f.groups) o there) (defined_less id f.definitions f.attributes suits.1 h.defined) refl refl refl h

attribute_made_assigned : (row : AttributeRow) (f : Lists) → Suits (AttributeMade row) f → AreAssigned f → AreAssigned (happened (AttributeMade row) f)
attribute_made_assigned row f suits h = record {
  ascend = h.ascend;
  defined = all_push (λ (r : AttributeRow). IsSome (definition_row r.definition f.definitions)) f.attributes row h.defined suits.3;
  stand = stand_more f (happened (AttributeMade row) f) f.assigns (same_folders f.folders) (same_subjects f.subjects) (same_groups f.groups) (λ a there. found_more (λ (r : AttributeRow). r.id == a) f.attributes row there) h.stand;
  few = h.few;
}

attribute_gone_assigned : (id : ℕ) (f : Lists) → Suits (AttributeGone id) f → AreAssigned f → AreAssigned (happened (AttributeGone id) f)
attribute_gone_assigned id f suits h =
    let g = happened (AttributeGone id) f in
    record {
      ascend = h.ascend;
      defined = all_filter (λ (r : AttributeRow). IsSome (definition_row r.definition f.definitions)) (λ (row : AttributeRow). not (row.id == id)) f.attributes h.defined;
      stand = stand_less f g id f.assigns refl (λ o there. owner_more f g (same_folders f.folders) (same_subjects f.subjects) (same_groups f.groups) o there) suits.1 h.stand;
      few = h.few;
    }

-- ---- assignments and their values

assign_made_assigned : (row : AssignRow) (f : Lists) → Suits (AssignMade row) f → AreAssigned f → AreAssigned (happened (AssignMade row) f)
assign_made_assigned row f suits h = other_assigns f (f.assigns ++ row ∷ []) row.id
    (subst (λ n. Ascend n (map (λ (r : AssignRow). r.id) (f.assigns ++ row ∷ []))) (sym suits.0) (ascend_push (λ (r : AssignRow). r.id) 0 f.made.assigns f.assigns row h.ascend suits.0))
    (all_push (λ (r : AssignRow). AssignStands f r) f.assigns row h.stand (record { attribute = suits.2; owner = suits.3 }))
    (let same = values_push f.assigns row suits.4 in let most = h.few in omega (arith, same, most))
    h

assign_gone_assigned : (id : ℕ) (f : Lists) → AreAssigned f → AreAssigned (happened (AssignGone id) f)
assign_gone_assigned id f h =
    let others = λ (row : AssignRow). not (row.id == id) in
    other_assigns f (filter others f.assigns) f.made.assigns
    (ascend_filter (λ (r : AssignRow). r.id) others 0 f.made.assigns f.assigns h.ascend)
    (all_filter (λ (r : AssignRow). AssignStands f r) others f.assigns h.stand)
    (let less = values_filter others f.assigns in let most = h.few in omega (arith, less, most))
    h

value_added_assigned : (id : ℕ) (v : AttrValue) (f : Lists) → Suits (ValueAdded id v) f → AreAssigned f → AreAssigned (happened (ValueAdded id v) f)
value_added_assigned id v f suits h = other_assigns f (map (with_value id v) f.assigns) f.made.assigns
    (ascend_map (λ (r : AssignRow). r.id) (with_value id v) (with_id id v) 0 f.made.assigns f.assigns h.ascend)
    (stand_changed f (with_value id v) f.assigns (with_attribute id v) (with_owner id v) h.stand)
    (let more = values_added id 0 f.made.assigns v f.assigns h.ascend in let room = suits.1 in omega (arith, more, room))
    h

value_removed_assigned : (id : ℕ) (v : AttrValue) (f : Lists) → AreAssigned f → AreAssigned (happened (ValueRemoved id v) f)
value_removed_assigned id v f h = other_assigns f (map (without_value id v) f.assigns) f.made.assigns
    (ascend_map (λ (r : AssignRow). r.id) (without_value id v) (without_id id v) 0 f.made.assigns f.assigns h.ascend)
    (stand_changed f (without_value id v) f.assigns (without_attribute id v) (without_owner id v) h.stand)
    (let less = values_removed id v f.assigns in let most = h.few in omega (arith, less, most))
    h

-- an event that suits
pub happened_assigned : (e : Event) (f : Lists) → Suits e f → AreAssigned f → AreAssigned (happened e f)
happened_assigned (FolderMade row) f suits h = assigned_still f (happened (FolderMade row) f) (folder_more f.folders row) (same_subjects f.subjects) (same_groups f.groups) refl refl refl refl h
happened_assigned (FolderRenamed id extension) f suits h =
    assigned_still f (happened (FolderRenamed id extension) f) (folder_changed (folder_renamed id extension) (folder_renamed_id id extension) (folder_renamed_up id extension) f.folders) (same_subjects f.subjects) (same_groups f.groups) refl refl refl refl h
happened_assigned (FolderMoved id to) f suits h =
    assigned_still f (happened (FolderMoved id to) f) (folder_changed (folder_moved id to) (folder_moved_id id to) (folder_moved_up id to) f.folders) (same_subjects f.subjects) (same_groups f.groups) refl refl refl refl h
happened_assigned (FolderGone id) f suits h = off_assigned f (happened (FolderGone id) f) (Folder id) (owner_less_folder id f) h.defined refl refl refl h
happened_assigned (SubjectMade row) f suits h = assigned_still f (happened (SubjectMade row) f) (same_folders f.folders) (subject_more f.subjects row) (same_groups f.groups) refl refl refl refl h
happened_assigned (GroupMade row) f suits h = assigned_still f (happened (GroupMade row) f) (same_folders f.folders) (same_subjects f.subjects) (among_more f.groups row) refl refl refl refl h
happened_assigned (GroupRenamed id extension) f suits h =
    assigned_still f (happened (GroupRenamed id extension) f) (same_folders f.folders) (same_subjects f.subjects) (among_changed (group_renamed id extension) (group_renamed_id id extension) f.groups) refl refl refl refl h
happened_assigned (GroupMoved id to) f suits h =
    assigned_still f (happened (GroupMoved id to) f) (same_folders f.folders) (same_subjects f.subjects) (among_changed (group_moved id to) (group_moved_id id to) f.groups) refl refl refl refl h
happened_assigned (GroupGone id) f suits h = off_assigned f (happened (GroupGone id) f) (Group id) (owner_less_group id f) h.defined refl refl refl h
happened_assigned (DefinitionMade row) f suits h = definition_made_assigned row f h
happened_assigned (DefinitionGone id) f suits h = definition_gone_assigned id f suits h
happened_assigned (AttributeMade row) f suits h = attribute_made_assigned row f suits h
happened_assigned (AttributeGone id) f suits h = attribute_gone_assigned id f suits h
happened_assigned (AssignMade row) f suits h = assign_made_assigned row f suits h
happened_assigned (AssignGone id) f suits h = assign_gone_assigned id f h
happened_assigned (ValueAdded id v) f suits h = value_added_assigned id v f suits h
happened_assigned (ValueRemoved id v) f suits h = value_removed_assigned id v f h
happened_assigned e f suits h = same_assigned f (happened e f) refl refl refl refl refl refl refl h
