-- What texts and entities name was made, and stands.
use Rattle.std.proofs.Common.{◌≡◌, ◌≤◌, ◌<◌, ◌==◌, ◌||◌, ℕ, List, [], ◌∷◌, ◌++◌, Bool, true, false, Option, Some, None, inl, inr, refl, sym, ap, subst, ◌∙◌, map, arith}
use Rattle.std.specs.Prelude.{if◌then◌else◌}
use Rattle.std.specs.List.{AllByRecursion, list_any}
use Rattle.std.specs.Str.{bytes_eq}
use Rattle.std.proofs.lemmas.Bool.{cases_Bool, or_cases, or_left, or_right, both_ways, eqb-true}
use Rattle.reg_base.specs.Entities.{entity_of}
use Rattle.reg_base.specs.declared.entity.Entity.{Entity}
use Rattle.reg_base.specs.declared.entity.Entity.TheVariants as entity
use Rattle.reg_terms.specs.Kinds.{same_object, as_group}
use Rattle.reg_terms.specs.declared.kinds.Holder.{Holder}
use Rattle.reg_terms.specs.declared.kinds.Holder.TheVariants as holder
use Rattle.reg_terms.specs.declared.kinds.Object.{Object}
use Rattle.reg_terms.specs.declared.kinds.Object.TheVariants as object
use Rattle.reg_terms.specs.declared.rows.AttributeRow.{AttributeRow}
use Rattle.reg_terms.specs.declared.rows.DefinitionRow.{DefinitionRow}
use Rattle.reg_terms.specs.declared.rows.FolderRow.{FolderRow}
use Rattle.reg_terms.specs.declared.rows.GroupRow.{GroupRow}
use Rattle.reg_terms.specs.declared.rows.Made.{Made}
use Rattle.reg_terms.specs.declared.rows.SubjectRow.{SubjectRow}
use Rattle.reg_facts.specs.Edits.{subject_id}
use Rattle.reg_facts.specs.Grants.{entity_object, of_entity, object_of, holder_of}
use Rattle.reg_facts.specs.Lists.{Lists, root}
use Rattle.reg_facts.specs.Naming.{Placed, placed, placed_folders, placed_group, placed_definition, placed_attribute, place_of, resolve, group_id}
use Rattle.reg_facts.specs.Rows.{group_row}
use Rattle.reg_facts.specs.Sound.{AscendFrom, Ascend, BeginsAtRoot, is_named, has_group, has_subject, HolderStands, WasMade, IsSound}
use Rattle.reg_facts.proofs.Frames.{folders_none, folders_some}
use Rattle.reg_facts.proofs.Joined.{subject_known}
use Rattle.reg_facts.proofs.PlacedRows.{group_none}
use Rattle.reg_facts.proofs.Places.{cases_option, same_is}
use Rattle.reg_facts.proofs.Resolving.{any_is, resolve_names}
use Rattle.reg_facts.proofs.Standing.{placed_is}

-- ---- ids that ascend are at most the last

pub ascend_top : (floor top : ℕ) (ns : List ℕ) → AscendFrom floor top ns → floor ≤ top
ascend_top floor top [] h = h
ascend_top floor top (n ∷ ns) h = let rest = ascend_top n top ns h.1 in omega (arith, h.0, rest)

abbrev MadePlace : Made → Placed → Type 0
MadePlace made p = WasMade made p.object

folders_made : (floor : ℕ) (made : Made) (rows : List FolderRow) → AscendFrom floor made.folders (map (λ (r : FolderRow). r.id) rows) → AllByRecursion (λ (p : Placed). MadePlace made p) (placed_folders rows)
folders_made floor made [] h = tt
folders_made floor made (row ∷ rows) h = by_parent row.parent (folders_made row.id made rows h.1) refl
  where
    by_parent : (q : Option ℕ) → AllByRecursion (λ (p : Placed). MadePlace made p) (placed_folders rows) → row.parent ≡ q → AllByRecursion (λ (p : Placed). MadePlace made p) (placed_folders (row ∷ rows))
    by_parent None rest e = subst (λ ps. AllByRecursion (λ (p : Placed). MadePlace made p) ps) (sym (folders_none row rows e)) rest
    by_parent (Some d) rest e = subst (λ ps. AllByRecursion (λ (p : Placed). MadePlace made p) ps) (sym (folders_some row rows d e)) (ascend_top row.id made.folders (map (λ (r : FolderRow). r.id) rows) h.1, rest)

all_folders_made : (made : Made) (rows : List FolderRow) → BeginsAtRoot made.folders rows → AllByRecursion (λ (p : Placed). MadePlace made p) (placed_folders rows)
all_folders_made made [] h = absurd h
all_folders_made made (row ∷ rows) h = subst (λ ps. AllByRecursion (λ (p : Placed). MadePlace made p) ps) (sym (folders_none row rows (ap (λ (r : FolderRow). r.parent) h.0))) (folders_made 0 made rows h.1)

groups_made : (floor : ℕ) (made : Made) (rows : List GroupRow) → AscendFrom floor made.groups (map (λ (r : GroupRow). r.id) rows) → AllByRecursion (λ (p : Placed). MadePlace made p) (map placed_group rows)
groups_made floor made [] h = tt
groups_made floor made (row ∷ rows) h = (ascend_top row.id made.groups (map (λ (r : GroupRow). r.id) rows) h.1, groups_made row.id made rows h.1)

definitions_made : (floor : ℕ) (made : Made) (rows : List DefinitionRow) → AscendFrom floor made.definitions (map (λ (r : DefinitionRow). r.id) rows) → AllByRecursion (λ (p : Placed). MadePlace made p) (map placed_definition rows)
definitions_made floor made [] h = tt
definitions_made floor made (row ∷ rows) h = (ascend_top row.id made.definitions (map (λ (r : DefinitionRow). r.id) rows) h.1, definitions_made row.id made rows h.1)

attributes_made : (floor : ℕ) (made : Made) (rows : List AttributeRow) → AscendFrom floor made.attributes (map (λ (r : AttributeRow). r.id) rows) → AllByRecursion (λ (p : Placed). MadePlace made p) (map placed_attribute rows)
attributes_made floor made [] h = tt
attributes_made floor made (row ∷ rows) h = (ascend_top row.id made.attributes (map (λ (r : AttributeRow). r.id) rows) h.1, attributes_made row.id made rows h.1)

all_joined : {X : Type 0} (P : X → Type 0) (a b : List X) → AllByRecursion P a → AllByRecursion P b → AllByRecursion P (a ++ b)
all_joined P [] b h k = k
all_joined P (x ∷ a) b h k = (h.0, all_joined P a b h.1 k)

placed_made : (f : Lists) → IsSound f → AllByRecursion (λ (p : Placed). MadePlace f.made p) (placed f)
placed_made f s =
    subst (λ ps. AllByRecursion (λ (p : Placed). MadePlace f.made p) ps) (sym (placed_is f))
    (all_joined (λ (p : Placed). MadePlace f.made p) (placed_folders f.folders) _ (all_folders_made f.made f.folders s.folders)
    (all_joined (λ (p : Placed). MadePlace f.made p) (map placed_group f.groups) _ (groups_made 0 f.made f.groups s.groups)
    (all_joined (λ (p : Placed). MadePlace f.made p) (map placed_definition f.definitions) _ (definitions_made 0 f.made f.definitions s.definitions)
    (attributes_made 0 f.made f.attributes s.attributes))))

-- ---- what has a name was made

made_among : (made : Made) (o : Object) (ps : List Placed) → AllByRecursion (λ (p : Placed). MadePlace made p) ps → list_any (λ (p : Placed). same_object p.object o) ps ≡ true → WasMade made o
made_among made o [] all h = absurd (both_ways false refl h)
made_among made o (p ∷ ps) all h = elim (or_cases (same_object p.object o) (list_any (λ (q : Placed). same_object q.object o) ps) h) [
  | inl t ↦ subst (λ (x : Object). WasMade made x) (same_is p.object o t) all.0
  | inr t ↦ made_among made o ps all.1 t
]

named_made : (f : Lists) (o : Object) → IsSound f → is_named o f ≡ true → WasMade f.made o
named_made f o s h = elim (or_cases (same_object o (object.Folder root)) (list_any (λ (p : Placed). same_object p.object o) (placed f)) h) [
  | inl t ↦ subst (λ (x : Object). WasMade f.made x) (sym (same_is o (object.Folder root) t)) (omega arith)
  | inr t ↦ made_among f.made o (placed f) (placed_made f s) t
]

resolved_made : (f : Lists) (text : List ℕ) (o : Object) → IsSound f → resolve text f ≡ Some o → WasMade f.made o
resolved_made f text o s h = named_made f o s (resolve_names text o f s h).1

-- ---- subjects and groups

subject_made : (floor top : ℕ) (ss : List SubjectRow) (s : ℕ) → AscendFrom floor top (map (λ (r : SubjectRow). r.id) ss) → has_subject s ss ≡ true → s ≤ top
subject_made floor top [] s a h = absurd (both_ways false refl h)
subject_made floor top (row ∷ ss) s a h = elim (or_cases (row.id == s) (has_subject s ss) h) [
  | inl t ↦ subst (λ n. n ≤ top) (eqb-true row.id s t) (ascend_top row.id top (map (λ (r : SubjectRow). r.id) ss) a.1)
  | inr t ↦ subject_made row.id top ss s a.1 t
]

found_group : (g : ℕ) (gs : List GroupRow) (row : GroupRow) → group_row g gs ≡ Some row → has_group g gs ≡ true
found_group g [] row h = cc
found_group g (r ∷ gs) row h = elim (cases_Bool (r.id == g)) [
  | inl t ↦ or_left (r.id == g) (has_group g gs) t
  | inr t ↦ or_right (r.id == g) (has_group g gs) (found_group g gs row (rw t at h))
]

pub group_stands : (f : Lists) (name : List ℕ) (g : ℕ) → IsSound f → resolve name f ≡ Some (object.Group g) → has_group g f.groups ≡ true
group_stands f name g s h =
    let place = any_is (object.Group g) (placed f) (resolve_names name (object.Group g) f s h).1 in
    elim (cases_option (group_row g f.groups)) [
      | inl none ↦ absurd (let nowhere : None ≡ place_of (object.Group g) (placed f) = group_none g f (sym none) in let some = place.1 in let clash : ⊥ = cc in clash)
      | inr row ↦ found_group g f.groups row.0 row.1
    ]

pub as_group_is : (found : Option Object) (g : ℕ) → as_group found ≡ Some g → found ≡ Some (object.Group g)
as_group_is None g h = cc
as_group_is (Some (object.Folder d)) g h = cc
as_group_is (Some (object.Group x)) g h = cc
as_group_is (Some (object.Def a)) g h = cc
as_group_is (Some (object.Attr a)) g h = cc
as_group_is (Some (object.Subject s)) g h = cc

-- ---- what texts and entities name

entity_made : (f : Lists) (e : Entity) (o : Object) → IsSound f → entity_object e f ≡ Some o → WasMade f.made o
entity_made f (entity.Person text) o s h = elim (cases_option (subject_id text f.subjects)) [
  | inl none ↦ absurd (let at : None ≡ Some o = rw none at h in let clash : ⊥ = cc in clash)
  | inr found ↦
      let at : Some (object.Subject found.0) ≡ Some o = rw found.1 at h in
      let same : object.Subject found.0 ≡ o = cc in
      subst (λ (x : Object). WasMade f.made x) same (subject_made 0 f.made.subjects f.subjects found.0 s.subjects (subject_known text f.subjects found.0 found.1))
]
entity_made f (entity.Group name) o s h = elim (cases_option (group_id name f)) [
  | inl none ↦ absurd (let at : None ≡ Some o = rw none at h in let clash : ⊥ = cc in clash)
  | inr found ↦
      let at : Some (object.Group found.0) ≡ Some o = rw found.1 at h in
      let same : object.Group found.0 ≡ o = cc in
      subst (λ (x : Object). WasMade f.made x) same (resolved_made f name (object.Group found.0) s (as_group_is (resolve name f) found.0 found.1))
]
entity_made f entity.System o s h = cc
entity_made f entity.Everyone o s h = cc

of_entity_made : (f : Lists) (e : Option Entity) (o : Object) → IsSound f → of_entity e f ≡ Some o → WasMade f.made o
of_entity_made f None o s h = cc
of_entity_made f (Some e) o s h = entity_made f e o s h

by_slash : (f : Lists) (slash : Bool) (text : List ℕ) (o : Object) → IsSound f → (if slash then of_entity (entity_of text) f else resolve text f) ≡ Some o → WasMade f.made o
by_slash f true text o s h = of_entity_made f (entity_of text) o s h
by_slash f false text o s h = resolved_made f text o s h

pub object_made : (f : Lists) (text : List ℕ) (o : Object) → IsSound f → object_of text f ≡ Some o → WasMade f.made o
unfolding object_of
object_made f text o s h = by_slash f (list_any (λ b. b == 47) text) text o s h

pub holder_stands : (f : Lists) (e : Entity) (h : Holder) → IsSound f → holder_of e f ≡ Some h → HolderStands f.subjects f.groups h
holder_stands f (entity.Person text) h s is = elim (cases_option (subject_id text f.subjects)) [
  | inl none ↦ absurd (let at : None ≡ Some h = rw none at is in let clash : ⊥ = cc in clash)
  | inr found ↦
      let at : Some (holder.Person found.0) ≡ Some h = rw found.1 at is in
      let same : holder.Person found.0 ≡ h = cc in
      subst (λ (x : Holder). HolderStands f.subjects f.groups x) same (subject_known text f.subjects found.0 found.1)
]
holder_stands f (entity.Group name) h s is = elim (cases_option (group_id name f)) [
  | inl none ↦ absurd (let at : None ≡ Some h = rw none at is in let clash : ⊥ = cc in clash)
  | inr found ↦
      let at : Some (holder.Group found.0) ≡ Some h = rw found.1 at is in
      let same : holder.Group found.0 ≡ h = cc in
      subst (λ (x : Holder). HolderStands f.subjects f.groups x) same (group_stands f name found.0 s (as_group_is (resolve name f) found.0 found.1))
]
holder_stands f entity.System h s is = cc
holder_stands f entity.Everyone h s is =
    let same : holder.Everyone ≡ h = cc in
    subst (λ (x : Holder). HolderStands f.subjects f.groups x) same tt
