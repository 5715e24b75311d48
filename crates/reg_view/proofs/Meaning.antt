-- What a text names over the facts is what it names in the view.
use Rattle.std.proofs.Common.{◌≡◌, ◌==◌, ℕ, List, Bool, true, false, Option, Some, None, Result, Ok, Err, refl, sym, ap, ◌∙◌, codes}
use Rattle.std.specs.Prelude.{if◌then◌else◌, is_some}
use Rattle.std.specs.List.{find}
use Rattle.reg_base.specs.Entities.{entity_of}
use Rattle.reg_base.specs.declared.entity.Entity.{Entity}
use Rattle.reg_base.specs.declared.entity.Entity.TheVariants as entity
use Rattle.reg_terms.specs.Kinds.{as_group, same_object}
use Rattle.reg_terms.specs.declared.kinds.Object.{Object}
use Rattle.reg_terms.specs.declared.kinds.Object.TheVariants.{Folder, Group, Def, Attr, Subject}
use Rattle.reg_terms.specs.declared.refusal.Refusal.{Refusal}
use Rattle.reg_terms.specs.declared.refusal.Refusal.TheVariants.{NotFound}
use Rattle.reg_terms.specs.declared.rows.FolderRow.{FolderRow}
use Rattle.reg_terms.specs.declared.rows.GroupRow.{GroupRow}
use Rattle.reg_terms.specs.declared.rows.DefinitionRow.{DefinitionRow}
use Rattle.reg_terms.specs.declared.rows.AttributeRow.{AttributeRow}
use Rattle.reg_facts.specs.Edits.{subject_id}
use Rattle.reg_facts.specs.Lists.{Lists}
use Rattle.reg_facts.specs.Named.{AreNamed}
use Rattle.reg_facts.specs.Naming.{name_of, resolve}
use Rattle.reg_facts.specs.Sound.{IsSound}
use Rattle.reg_effect.specs.declared.live.Live.{Live}
use Rattle.reg_priv.specs.declared.who.Who.{Who}
use Rattle.reg_priv.specs.May.{visible}
use Rattle.reg_view.specs.Answers.{definition_of, entity_found, entity_object, group_seen, name_found, object_found}
use Rattle.reg_view.specs.Past.{Past}
use Rattle.reg_view.specs.Show as shown
use Rattle.reg_view.specs.Show.{◌>>=◌, found_or, named, Kind, Meant, AFolder, AGroup, ADefinition, AnAttribute, Named, ASubject, Internal, attribute_named, definition_named, entity_seen, folder_named, group_named, is_entity_text, object_meant, object_named, object_seen}
use Rattle.reg_view.specs.Texts.{definition_name}
use Rattle.reg_view.specs.View as views
use Rattle.reg_view.specs.View.{View, AttributeSeen, GroupSeen, attribute_object, attribute_seen, definition_object, folder_object, group_object, seen_by}
use Rattle.reg_view.proofs.Found.{chosen, found_by}
use Rattle.reg_view.proofs.Grouped.{text_known}
use Rattle.reg_view.proofs.Seen.{by_seen, its_row, no_kind, seen_is, steps_join}
use Rattle.reg_view.proofs.Standing.{attribute_there, attributes_named, definition_there, definitions_named, folder_there, folders_named, group_there, subject_unnamed}

-- the kind of an object that has a name
abbrev pub kind_of : Lists → Object → Kind
kind_of f (Folder d) = AFolder
kind_of f (Group g) = AGroup
kind_of f (Def a) = ADefinition
kind_of f (Attr a) = AnAttribute (definition_of a f)
kind_of f (Subject s) = AFolder

-- an entity's person stands
abbrev pub Stands : Lists → Entity → Type 0
Stands f (entity.Person text) = (s : ℕ) × (subject_id text f.subjects ≡ Some s)
Stands f (entity.Group name) = Unit {0}
Stands f entity.System = Unit {0}
Stands f entity.Everyone = Unit {0}

module _ (past : Past) (moment : ℕ) (L : Live) (f : Lists) (sound : IsSound f) (are : AreNamed f) (c : Who) (now : ℕ) (by : List ℕ) where
  abbrev v : View
  v = seen_by past L f now moment by c

  -- ---- entities

  -- going on from an entity that is found, whatever it is
  module _ {B : Type 0} (m : Result B Refusal) (k : Entity → Result B Refusal) where
    person_step : (text : List ℕ) (o : Option ℕ) → ((s : ℕ) → o ≡ Some s → m ≡ k (entity.Person text))
        → ((elim o [ None ↦ Err (NotFound text) | Some s ↦ Ok (Some (Subject s)) ]) >>= (λ _. m)) ≡ ((if is_some o then Ok (entity.Person text) else Err (NotFound text)) >>= k)
    person_step text None same = refl
    person_step text (Some s) same = same s refl

    seen_step : (name : List ℕ) (r : Result ℕ Refusal) → ((r >>= (λ g. Ok (Some (Group g)))) >>= (λ _. m)) ≡ (r >>= (λ _. m))
    seen_step name (Ok g) = refl
    seen_step name (Err e) = refl

    shown_step : (name : List ℕ) (r : Result GroupSeen Refusal) → ((r >>= (λ _. Ok (entity.Group name))) >>= k) ≡ (r >>= (λ _. k (entity.Group name)))
    shown_step name (Ok g) = refl
    shown_step name (Err e) = refl

    pub by_entity : (e : Entity) → (Stands f e → m ≡ k e) → (entity_found L f c e >>= (λ _. m)) ≡ (entity_seen v e >>= k)
    by_entity (entity.Person text) same =
        person_step text (subject_id text f.subjects) (λ s at. same (s, at))
        ∙ ap (λ b. (if b then Ok (entity.Person text) else Err (NotFound text)) >>= k) (sym (text_known text f.subjects))
    by_entity (entity.Group name) same =
        seen_step name (group_seen L f c name)
        ∙ by_seen past moment L f sound are c now by name (λ _. k (entity.Group name)) (λ _. m) (λ row at there. same tt)
        ∙ sym (shown_step name (shown.seen v name))
    by_entity entity.System same = same tt
    by_entity entity.Everyone same = same tt

  -- ---- objects

  abbrev Meets : {B : Type 0} → (Option Object → Result B Refusal) → (Meant → Result B Refusal) → Type 0
  Meets m k = (name : List ℕ) (o : Object) → resolve name f ≡ Some o → visible L f c o ≡ true → m (Some o) ≡ k (Named name (kind_of f o))

  module _ {B : Type 0} (m : Option Object → Result B Refusal) (k : Meant → Result B Refusal) (internal : m None ≡ k Internal) (subject : (text : List ℕ) (s : ℕ) → subject_id text f.subjects ≡ Some s → m (Some (Subject s)) ≡ k (ASubject text)) (named_ones : Meets m k) where
    -- an entity as an object
    abbrev meant : Entity → Result B Refusal
    meant e = k (object_meant e)

    person_meant : (text : List ℕ) (o : Option ℕ) → subject_id text f.subjects ≡ o → ((elim o [ None ↦ Err (NotFound text) | Some s ↦ Ok (Some (Subject s)) ]) >>= m) ≡ ((if is_some o then Ok (entity.Person text) else Err (NotFound text)) >>= meant)
    person_meant text None at = refl
    person_meant text (Some s) at = subject text s at

    -- a group by its entity's name
    module _ (name : List ℕ) where
      abbrev shows : Option GroupSeen → Result B Refusal
      shows s = found_or s (NotFound name) >>= (λ _. k (Named name AGroup))

      is_told : (b : Bool) (g : ℕ) (s : GroupSeen) → (b ≡ true → m (Some (Group g)) ≡ k (Named name AGroup)) → ((if b then Ok g else Err (NotFound name)) >>= (λ g. m (Some (Group g)))) ≡ shows (if b then Some s else None)
      is_told true g s h = h refl
      is_told false g s h = refl

      other_kind : (o : Object) → ((r : GroupRow) → same_object (Group r.id) o ≡ false) → Err (NotFound name) ≡ shows (chosen group_object (visible L f c) (views.group_seen f) f.groups (Some o))
      other_kind o differ = sym (ap shows (no_kind group_object (visible L f c) (views.group_seen f) f.groups o differ))

      abbrev told_of : Option Object → Result B Refusal
      told_of o = (elim (as_group o) [ None ↦ Err (NotFound name) | Some id ↦ if visible L f c (Group id) then Ok id else Err (NotFound name) ]) >>= (λ g. m (Some (Group g)))

      group_go : (o : Option Object) → resolve name f ≡ o → told_of o ≡ shows (chosen group_object (visible L f c) (views.group_seen f) f.groups o)
      group_go None at = refl
      group_go (Some (Folder d)) at = other_kind (Folder d) (λ r. refl)
      group_go (Some (Group g)) at =
          let there = group_there f sound g (are.found name (Group g) at).1 in
          is_told (visible L f c (Group g)) g (views.group_seen f there.0) (λ sees. named_ones name (Group g) at sees)
          ∙ sym (ap shows (its_row group_object (visible L f c) (views.group_seen f) f.groups (Group g) there.0 there.1))
      group_go (Some (Def a)) at = other_kind (Def a) (λ r. refl)
      group_go (Some (Attr a)) at = other_kind (Attr a) (λ r. refl)
      group_go (Some (Subject s)) at = other_kind (Subject s) (λ r. refl)

      seen_meant : (o : Option Object) → resolve name f ≡ o → told_of o ≡ (shown.seen v name >>= (λ _. k (Named name AGroup)))
      seen_meant o at = group_go o at ∙ sym (ap shows (seen_is past moment L f sound are c now by name o at))

    by_entity_object : (e : Entity) → (entity_found L f c e >>= m) ≡ (entity_seen v e >>= meant)
    by_entity_object (entity.Person text) =
        person_meant text (subject_id text f.subjects) refl
        ∙ ap (λ b. (if b then Ok (entity.Person text) else Err (NotFound text)) >>= meant) (sym (text_known text f.subjects))
    by_entity_object (entity.Group name) =
        steps_join (group_seen L f c name) (λ g. Ok (Some (Group g))) m
        ∙ seen_meant name (resolve name f) refl
        ∙ sym (steps_join (shown.seen v name) (λ _. Ok (entity.Group name)) meant)
    by_entity_object entity.System = internal
    by_entity_object entity.Everyone = internal

    by_entity_text : (text : List ℕ) (o : Option Entity) → (entity_object L f c text o >>= m) ≡ (shown.entity_meant v text o >>= k)
    by_entity_text text None = refl
    by_entity_text text (Some e) = by_entity_object e ∙ sym (steps_join (entity_seen v e) (λ found. Ok (object_meant found)) k)

    -- an object by its name
    module _ (text : List ℕ) where
      abbrev folder_name : FolderRow → List ℕ
      folder_name row = name_of (Folder row.id) f

      abbrev def_name : DefinitionRow → List ℕ
      def_name row = name_of (Def row.id) f

      abbrev in_lists : Option (List ℕ) → Option GroupSeen → Option (List ℕ) → Option AttributeSeen → Result Meant Refusal
      in_lists a b d e =
          elim a [
            | Some _ ↦ Ok (Named text AFolder)
            | None ↦
                elim b [
                  | Some _ ↦ Ok (Named text AGroup)
                  | None ↦
                      elim d [
                        | Some _ ↦ Ok (Named text ADefinition)
                        | None ↦
                            elim e [ Some x ↦ Ok (Named text (AnAttribute x.definition)) | None ↦ Err (NotFound text) ]
                      ]
                ]
          ]

      abbrev folders_of : Option Object → Option (List ℕ)
      folders_of o = chosen folder_object (visible L f c) folder_name f.folders o

      abbrev groups_of : Option Object → Option GroupSeen
      groups_of o = chosen group_object (visible L f c) (views.group_seen f) f.groups o

      abbrev definitions_of : Option Object → Option (List ℕ)
      definitions_of o = chosen definition_object (visible L f c) def_name f.definitions o

      abbrev attributes_of : Option Object → Option AttributeSeen
      attributes_of o = chosen attribute_object (visible L f c) (attribute_seen f) f.attributes o

      found_lists : (o : Option Object) → resolve text f ≡ o → object_named v text ≡ in_lists (folders_of o) (groups_of o) (definitions_of o) (attributes_of o)
      found_lists o at =
          ap (λ x. in_lists x (group_named v text) (definition_named v text) (attribute_named v text)) (found_by f are text folder_object (visible L f c) folder_name (λ (n : List ℕ). n) (λ r. refl) f.folders o (folders_named f sound) at)
          ∙ ap (λ x. in_lists (folders_of o) x (definition_named v text) (attribute_named v text)) (seen_is past moment L f sound are c now by text o at)
          ∙ ap (λ x. in_lists (folders_of o) (groups_of o) x (attribute_named v text)) (found_by f are text definition_object (visible L f c) def_name (λ (n : List ℕ). n) (λ r. refl) f.definitions o (definitions_named f) at)
          ∙ ap (λ x. in_lists (folders_of o) (groups_of o) (definitions_of o) x) (found_by f are text attribute_object (visible L f c) (attribute_seen f) (λ (a : AttributeSeen). a.name) (λ r. refl) f.attributes o (attributes_named f) at)

      -- where the object is of one kind the other lists haven't it
      abbrev tells : Object → Option (List ℕ) → Option GroupSeen → Option (List ℕ) → Option AttributeSeen → Type 0
      tells o a b d e = (name_found L f c text (Some o) >>= m) ≡ (in_lists a b d e >>= k)

      abbrev one : {X : Type 0} → Bool → X → Option X
      one b x = if b then Some x else None

      chosen_is : (o : Object) (b : Bool) (kind : Kind) → visible L f c o ≡ b → (b ≡ true → m (Some o) ≡ k (Named text kind)) → ((if b then Ok (Some o) else Err (NotFound text)) >>= m) ≡ ((if b then Ok (Named text kind) else Err (NotFound text)) >>= k)
      chosen_is o true kind at h = h refl
      chosen_is o false kind at h = refl

      group_list : (b : Bool) (s : GroupSeen) → (if b then Ok (Named text AGroup) else Err (NotFound text)) ≡ in_lists None (one b s) None None
      group_list true s = refl
      group_list false s = refl

      definition_list : (b : Bool) (n : List ℕ) → (if b then Ok (Named text ADefinition) else Err (NotFound text)) ≡ in_lists None None (one b n) None
      definition_list true n = refl
      definition_list false n = refl

      attribute_list : (b : Bool) (x : AttributeSeen) → (if b then Ok (Named text (AnAttribute x.definition)) else Err (NotFound text)) ≡ in_lists None None None (one b x)
      attribute_list true x = refl
      attribute_list false x = refl

      no_folder : (o : Object) → ((r : FolderRow) → same_object (Folder r.id) o ≡ false) → folders_of (Some o) ≡ None
      no_folder o differ = no_kind folder_object (visible L f c) folder_name f.folders o differ

      no_group : (o : Object) → ((r : GroupRow) → same_object (Group r.id) o ≡ false) → groups_of (Some o) ≡ None
      no_group o differ = no_kind group_object (visible L f c) (views.group_seen f) f.groups o differ

      no_definition : (o : Object) → ((r : DefinitionRow) → same_object (Def r.id) o ≡ false) → definitions_of (Some o) ≡ None
      no_definition o differ = no_kind definition_object (visible L f c) def_name f.definitions o differ

      no_attribute : (o : Object) → ((r : AttributeRow) → same_object (Attr r.id) o ≡ false) → attributes_of (Some o) ≡ None
      no_attribute o differ = no_kind attribute_object (visible L f c) (attribute_seen f) f.attributes o differ

      abbrev lists_with : Option (List ℕ) → Option GroupSeen → Option (List ℕ) → Option AttributeSeen → Result B Refusal
      lists_with a b d e = in_lists a b d e >>= k

      four : (a x : Option (List ℕ)) (b y : Option GroupSeen) (d z : Option (List ℕ)) (e w : Option AttributeSeen) → a ≡ x → b ≡ y → d ≡ z → e ≡ w → lists_with a b d e ≡ lists_with x y z w
      four a x b y d z e w i j l n = ap (λ t. lists_with t b d e) i ∙ ap (λ t. lists_with x t d e) j ∙ ap (λ t. lists_with x y t e) l ∙ ap (λ t. lists_with x y z t) n

      definition_is : (a : ℕ) (row : AttributeRow) → find (λ (r : AttributeRow). r.id == a) f.attributes ≡ Some row → definition_of a f ≡ definition_name f row
      definition_is a row at = ap (λ (found : Option AttributeRow). elim found [ None ↦ codes ":" | Some r ↦ definition_name f r ]) at

      name_go : (o : Option Object) → resolve text f ≡ o → (name_found L f c text o >>= m) ≡ lists_with (folders_of o) (groups_of o) (definitions_of o) (attributes_of o)
      name_go None at = refl
      name_go (Some (Folder d)) at =
          let there = folder_there f sound d (are.found text (Folder d) at).1 in
          named_ones text (Folder d) at refl
          ∙ sym (four (folders_of (Some (Folder d))) (Some (folder_name there.0)) (groups_of (Some (Folder d))) None (definitions_of (Some (Folder d))) None (attributes_of (Some (Folder d))) None
          (its_row folder_object (visible L f c) folder_name f.folders (Folder d) there.0 there.1) (no_group (Folder d) (λ r. refl)) (no_definition (Folder d) (λ r. refl)) (no_attribute (Folder d) (λ r. refl)))
      name_go (Some (Group g)) at =
          let there = group_there f sound g (are.found text (Group g) at).1 in
          let b = visible L f c (Group g) in
          chosen_is (Group g) b AGroup refl (λ sees. named_ones text (Group g) at sees)
          ∙ ap (λ found. found >>= k) (group_list b (views.group_seen f there.0))
          ∙ sym (four (folders_of (Some (Group g))) None (groups_of (Some (Group g))) (one b (views.group_seen f there.0)) (definitions_of (Some (Group g))) None (attributes_of (Some (Group g))) None
          (no_folder (Group g) (λ r. refl)) (its_row group_object (visible L f c) (views.group_seen f) f.groups (Group g) there.0 there.1) (no_definition (Group g) (λ r. refl)) (no_attribute (Group g) (λ r. refl)))
      name_go (Some (Def a)) at =
          let there = definition_there f sound a (are.found text (Def a) at).1 in
          let b = visible L f c (Def a) in
          chosen_is (Def a) b ADefinition refl (λ sees. named_ones text (Def a) at sees)
          ∙ ap (λ found. found >>= k) (definition_list b (def_name there.0))
          ∙ sym (four (folders_of (Some (Def a))) None (groups_of (Some (Def a))) None (definitions_of (Some (Def a))) (one b (def_name there.0)) (attributes_of (Some (Def a))) None
          (no_folder (Def a) (λ r. refl)) (no_group (Def a) (λ r. refl)) (its_row definition_object (visible L f c) def_name f.definitions (Def a) there.0 there.1) (no_attribute (Def a) (λ r. refl)))
      name_go (Some (Attr a)) at =
          let there = attribute_there f sound a (are.found text (Attr a) at).1 in
          let b = visible L f c (Attr a) in
          let kind : AnAttribute (definition_of a f) ≡ AnAttribute (definition_name f there.0) = ap (λ n. AnAttribute n) (definition_is a there.0 there.1) in
          chosen_is (Attr a) b (AnAttribute (definition_name f there.0)) refl (λ sees. named_ones text (Attr a) at sees ∙ ap (λ x. k (Named text x)) kind)
          ∙ ap (λ found. found >>= k) (attribute_list b (attribute_seen f there.0))
          ∙ sym (four (folders_of (Some (Attr a))) None (groups_of (Some (Attr a))) None (definitions_of (Some (Attr a))) None (attributes_of (Some (Attr a))) (one b (attribute_seen f there.0))
          (no_folder (Attr a) (λ r. refl)) (no_group (Attr a) (λ r. refl)) (no_definition (Attr a) (λ r. refl)) (its_row attribute_object (visible L f c) (attribute_seen f) f.attributes (Attr a) there.0 there.1))
      name_go (Some (Subject s)) at = absurd (subject_unnamed f sound s (are.found text (Subject s) at).1)

      by_name : (name_found L f c text (resolve text f) >>= m) ≡ (object_named v text >>= k)
      by_name = name_go (resolve text f) refl ∙ sym (ap (λ found. found >>= k) (found_lists (resolve text f) refl))

      by_either : (slash : Bool) → ((if slash then entity_object L f c text (entity_of text) else name_found L f c text (resolve text f)) >>= m) ≡ ((if slash then shown.entity_meant v text (entity_of text) else object_named v text) >>= k)
      by_either true = by_entity_text text (entity_of text)
      by_either false = by_name

      -- going on from an object that is found
      pub by_object : (object_found L f c text >>= m) ≡ (object_seen v text >>= k)
      by_object = by_either (is_entity_text text)
