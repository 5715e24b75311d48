-- The listing of a folder over the facts is the one that the view shows.
use Rattle.std.proofs.Common.{◌≡◌, ◌∷◌, ℕ, List, [], Bool, true, false, Option, Some, None, Result, Ok, Err, inl, inr, refl, sym, ap, ◌∙◌, map, filter}
use Rattle.std.specs.List.{find}
use Rattle.std.specs.List.Sorted.{IsStrictlySortedBy}
use Rattle.std.specs.Cmp.Lexicographic.{slice_cmp}
use Rattle.std.specs.Ordering.{nat_cmp}
use Rattle.std.proofs.lemmas.Bool.{cases_Bool, eqb-true}
use Rattle.reg_terms.specs.Kinds.{as_folder, same_object}
use Rattle.reg_terms.specs.declared.kinds.Object.{Object}
use Rattle.reg_terms.specs.declared.kinds.Object.TheVariants.{Folder, Group, Def, Attr, Subject}
use Rattle.reg_terms.specs.declared.refusal.Refusal.{Refusal}
use Rattle.reg_terms.specs.declared.refusal.Refusal.TheVariants.{NotFound}
use Rattle.reg_terms.specs.declared.rows.FolderRow.{FolderRow}
use Rattle.reg_terms.specs.declared.rows.DefinitionRow.{DefinitionRow}
use Rattle.reg_terms.specs.declared.query.Answer.{Answer}
use Rattle.reg_terms.specs.declared.query.Answer.TheVariants as answer
use Rattle.reg_facts.specs.Children.{by_bytes, child_names, extensions_in, is_among, names_in}
use Rattle.reg_facts.specs.Lists.{Lists}
use Rattle.reg_facts.specs.Named.{AreNamed}
use Rattle.reg_facts.specs.Naming.{Placed, placed_folders, placed_group, placed_definition, placed_attribute, name_in, name_of, resolve}
use Rattle.reg_facts.specs.Sound.{IsSound}
use Rattle.reg_effect.specs.declared.live.Live.{Live}
use Rattle.reg_priv.specs.declared.who.Who.{Who}
use Rattle.reg_priv.specs.May.{visible}
use Rattle.reg_view.specs.Answers.{is_seen, listing, listing_of, seen_names}
use Rattle.reg_view.specs.Past.{Past}
use Rattle.reg_view.specs.Show.{◌>>=◌, found_or, folder_named, inside, shown_listing}
use Rattle.reg_view.specs.View.{View, AttributeSeen, GroupSeen, attribute_object, attribute_seen, definition_object, folder_object, group_object, group_seen, seen_by}
use Rattle.reg_view.proofs.Found.{chosen, found_by}
use Rattle.reg_view.proofs.Listed.{is_inside, rows_listed, folders_listed, folders_stand, groups_stand, definitions_stand, attributes_stand}
use Rattle.reg_view.proofs.Ordered.{filter_by_bytes, names_ordered}
use Rattle.reg_view.proofs.Seen.{no_kind, its_row}
use Rattle.reg_view.proofs.Standing.{folder_there, folders_named}

all_pass : (texts : List (List ℕ)) → filter (λ (t : List ℕ). true) texts ≡ texts
all_pass [] = refl
all_pass (t ∷ texts) = ap (λ more. t ∷ more) (all_pass texts)

as_they_are : (texts : List (List ℕ)) → map (λ (n : List ℕ). n) texts ≡ texts
as_they_are [] = refl
as_they_are (t ∷ texts) = ap (λ more. t ∷ more) (as_they_are texts)

-- the first row that passes has the id
has_id : (d : ℕ) (rows : List FolderRow) (row : FolderRow) → find (λ (r : FolderRow). same_object (Folder r.id) (Folder d)) rows ≡ Some row → row.id ≡ d
has_id d [] row h = cc
has_id d (r ∷ rows) row h = elim (cases_Bool (same_object (Folder r.id) (Folder d))) [
  | inl t ↦ let e : Some r ≡ Some row = rw t at h in let is : r ≡ row = cc in rw (← is) (eqb-true r.id d t)
  | inr t ↦ has_id d rows row (rw t at h)
]

module _ (sorted : (texts : List (List ℕ)) → IsStrictlySortedBy (slice_cmp nat_cmp) (by_bytes texts)) (same : (text : List ℕ) (texts : List (List ℕ)) → is_among text (by_bytes texts) ≡ is_among text texts)
    (past : Past) (moment : ℕ) (L : Live) (f : Lists) (sound : IsSound f) (are : AreNamed f) (c : Who) (now : ℕ) (by : List ℕ) (folder : List ℕ) where
  abbrev v : View
  v = seen_by past L f now moment by c

  abbrev folder_name : FolderRow → List ℕ
  folder_name row = name_of (Folder row.id) f

  abbrev definition_named : DefinitionRow → List ℕ
  definition_named row = name_of (Def row.id) f

  abbrev test : List ℕ → Bool
  test text = is_seen L f c (resolve text f)

  module _ (d : ℕ) (at : resolve folder f ≡ Some (Folder d)) where
    -- by names in order
    kind_agrees : (ps : List Placed) (names : List (List ℕ)) → filter test (map (name_in folder) (extensions_in d ps)) ≡ filter (is_inside folder) names → seen_names L f c (names_in d folder ps) ≡ inside folder names
    kind_agrees ps names told =
        ap (filter test) (names_ordered d folder ps)
        ∙ filter_by_bytes sorted same test (map (name_in folder) (extensions_in d ps))
        ∙ ap by_bytes told

    attributes_agree : seen_names L f c (child_names d folder f).attributes ≡ inside folder (map (λ (a : AttributeSeen). a.name) v.attributes)
    attributes_agree = kind_agrees (map placed_attribute f.attributes) (map (λ (a : AttributeSeen). a.name) v.attributes)
        (rows_listed f are d folder at (visible L f c) test (λ text o h. ap (is_seen L f c) h) placed_attribute attribute_object (attribute_seen f) (λ (a : AttributeSeen). a.name) (λ r. refl) (λ r. refl) f.attributes (attributes_stand f sound are))

    definitions_agree : seen_names L f c (child_names d folder f).definitions ≡ inside folder v.definitions
    definitions_agree =
        kind_agrees (map placed_definition f.definitions) (map (λ (n : List ℕ). n) v.definitions)
        (rows_listed f are d folder at (visible L f c) test (λ text o h. ap (is_seen L f c) h) placed_definition definition_object definition_named (λ (n : List ℕ). n) (λ r. refl) (λ r. refl) f.definitions (definitions_stand f sound are))
        ∙ ap (inside folder) (as_they_are v.definitions)

    groups_agree : seen_names L f c (child_names d folder f).groups ≡ inside folder (map (λ (g : GroupSeen). g.name) v.groups)
    groups_agree = kind_agrees (map placed_group f.groups) (map (λ (g : GroupSeen). g.name) v.groups)
        (rows_listed f are d folder at (visible L f c) test (λ text o h. ap (is_seen L f c) h) placed_group group_object (group_seen f) (λ (g : GroupSeen). g.name) (λ r. refl) (λ r. refl) f.groups (groups_stand f sound are))

    folders_agree : (child_names d folder f).folders ≡ inside folder v.folders
    folders_agree =
        names_ordered d folder (placed_folders f.folders)
        ∙ ap by_bytes (sym (all_pass (map (name_in folder) (extensions_in d (placed_folders f.folders)))))
        ∙ ap by_bytes (folders_listed f are d folder at (λ (o : Object). true) (λ (t : List ℕ). true) (λ text o h. refl) folder_name (λ (n : List ℕ). n) (λ r. refl) refl f.made.folders f.folders sound.folders (folders_stand f sound are))
        ∙ ap (inside folder) (as_they_are v.folders)

    answers_agree : listing L f c d folder ≡ answer.FolderList (inside folder (map (λ (a : AttributeSeen). a.name) v.attributes)) (inside folder v.definitions) (inside folder v.folders) (inside folder (map (λ (g : GroupSeen). g.name) v.groups))
    answers_agree =
        ap (λ names. answer.FolderList names (seen_names L f c (child_names d folder f).definitions) (child_names d folder f).folders (seen_names L f c (child_names d folder f).groups)) attributes_agree
        ∙ ap (λ names. answer.FolderList (inside folder (map (λ (a : AttributeSeen). a.name) v.attributes)) names (child_names d folder f).folders (seen_names L f c (child_names d folder f).groups)) definitions_agree
        ∙ ap (λ names. answer.FolderList (inside folder (map (λ (a : AttributeSeen). a.name) v.attributes)) (inside folder v.definitions) names (seen_names L f c (child_names d folder f).groups)) folders_agree
        ∙ ap (λ names. answer.FolderList (inside folder (map (λ (a : AttributeSeen). a.name) v.attributes)) (inside folder v.definitions) (inside folder v.folders) names) groups_agree

  abbrev lists : Option (List ℕ) → Result Answer Refusal
  lists found = found_or found (NotFound folder) >>= (λ d. Ok (answer.FolderList (inside d (map (λ (a : AttributeSeen). a.name) v.attributes)) (inside d v.definitions) (inside d v.folders) (inside d (map (λ (g : GroupSeen). g.name) v.groups))))

  abbrev folder_of : Option Object → Option (List ℕ)
  folder_of o = chosen folder_object (visible L f c) folder_name f.folders o

  abbrev told : Option Object → Result Answer Refusal
  told o = elim (as_folder o) [ None ↦ Err (NotFound folder) | Some d ↦ Ok (listing L f c d folder) ]

  other : (o : Object) → ((r : FolderRow) → same_object (Folder r.id) o ≡ false) → Err (NotFound folder) ≡ lists (folder_of (Some o))
  other o differ = sym (ap lists (no_kind folder_object (visible L f c) folder_name f.folders o differ))

  go : (o : Option Object) → resolve folder f ≡ o → told o ≡ lists (folder_of o)
  go None at = refl
  go (Some (Folder d)) at =
      let named = are.found folder (Folder d) at in
      let there = folder_there f sound d named.1 in
      let name : folder_name there.0 ≡ folder = ap (λ x. name_of (Folder x) f) (has_id d f.folders there.0 there.1) ∙ named.0 in
      ap (λ a. Ok a) (answers_agree d at)
      ∙ ap lists (ap (λ n. Some n) (sym name))
      ∙ sym (ap lists (its_row folder_object (visible L f c) folder_name f.folders (Folder d) there.0 there.1))
  go (Some (Group g)) at = other (Group g) (λ r. refl)
  go (Some (Def a)) at = other (Def a) (λ r. refl)
  go (Some (Attr a)) at = other (Attr a) (λ r. refl)
  go (Some (Subject s)) at = other (Subject s) (λ r. refl)

  pub folder_is : (o : Option Object) → resolve folder f ≡ o → folder_named v folder ≡ folder_of o
  folder_is o at = found_by f are folder folder_object (visible L f c) folder_name (λ (n : List ℕ). n) (λ r. refl) f.folders o (folders_named f sound) at

  pub listing_agrees : listing_of L f c folder ≡ shown_listing v folder
  listing_agrees = go (resolve folder f) refl ∙ sym (ap lists (folder_is (resolve folder f) refl))
