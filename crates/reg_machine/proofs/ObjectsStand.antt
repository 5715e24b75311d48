-- Which objects stand after an event.
use Rattle.std.proofs.Common.{◌≡◌, ◌==◌, ◌&&◌, ◌||◌, ℕ, List, [], ◌∷◌, ◌++◌, Bool, true, false, not, Some, map, filter, arith, refl, sym, ◌∙◌, ap, inl, inr}
use Rattle.std.proofs.lemmas.Bool.{cases_Bool}
use Rattle.std.proofs.lemmas.Bool.Decides.{nat_tests}
use Rattle.std.proofs.lemmas.List.{append-nil, append_assoc}
use Rattle.std.specs.List.{list_any}
use Rattle.reg_terms.specs.Kinds.{same_object}
use Rattle.reg_terms.specs.declared.event.Event.TheVariants.{FolderMade, FolderRenamed, FolderMoved, FolderGone, SubjectMade, GroupMade, GroupRenamed, GroupMoved, GroupGone, DefinitionMade, DefinitionGone, AttributeMade, AttributeGone}
use Rattle.reg_terms.specs.declared.kinds.Object.{Object}
use Rattle.reg_terms.specs.declared.kinds.Object.TheVariants.{Folder, Group, Def, Attr, Subject}
use Rattle.reg_terms.specs.declared.rows.AttributeRow.{AttributeRow}
use Rattle.reg_terms.specs.declared.rows.DefinitionRow.{DefinitionRow}
use Rattle.reg_terms.specs.declared.rows.FolderRow.{FolderRow}
use Rattle.reg_terms.specs.declared.rows.GroupRow.{GroupRow}
use Rattle.reg_terms.specs.declared.rows.SubjectRow.{SubjectRow}
use Rattle.reg_facts.specs.Edits.{folder_renamed, folder_moved}
use Rattle.reg_facts.specs.Events.{happened}
use Rattle.reg_facts.specs.Lists.{Lists, root}
use Rattle.reg_facts.specs.Naming.{Placed, placed, placed_folders, placed_group, placed_definition, placed_attribute, place_of}
use Rattle.reg_facts.specs.Sound.{has_subject, is_named, IsSound}
use Rattle.reg_facts.specs.Suiting.{IsPlaced}
use Rattle.reg_facts.proofs.AttributesPlaced.{before_attributes, attribute_cut, attribute_put, attribute_split, definition_cut, definition_put, definition_split}
use Rattle.reg_facts.proofs.Changes.{alter, kept}
use Rattle.reg_facts.proofs.Edited.{begins_parent, folder_altered, folder_cut, folders_sited, folders_titled, group_cut, group_sited, group_titled, places_folder, places_group, sited, titled}
use Rattle.reg_facts.proofs.Frames.{rest_places}
use Rattle.reg_facts.proofs.Places.{same_is, same_self}
use Rattle.reg_facts.proofs.Sounding.{not_root}
use Rattle.reg_facts.proofs.Standing.{placed_is}
use Rattle.reg_machine.specs.Standing.{stands}

-- ---- among the objects that are placed

-- whether an object is placed
abbrev pub among : Object → List Placed → Bool
among o ps = list_any (λ (p : Placed). same_object p.object o) ps

swapped : (a b c : Bool) → (a || (b || c)) ≡ (b || (a || c))
swapped true true c = refl
swapped true false c = refl
swapped false b c = refl

any_inserted : {X : Type 0} (t : X → Bool) (a b : List X) (x : X) → list_any t (a ++ x ∷ b) ≡ (t x || list_any t (a ++ b))
any_inserted t [] b x = refl
any_inserted t (y ∷ a) b x = ap (λ s. t y || s) (any_inserted t a b x) ∙ swapped (t y) (t x) (list_any t (a ++ b))

one_altered : (o x : Object) (g : Placed → Placed) → ((p : Placed) → (g p).object ≡ p.object) → (p : Placed) → same_object (alter x g p).object o ≡ same_object p.object o
one_altered o x g keeps p = elim (cases_Bool (same_object p.object x)) [
  | inl y ↦ rw (y, keeps p) refl
  | inr n ↦ rw n refl
]

any_altered : (o x : Object) (g : Placed → Placed) → ((p : Placed) → (g p).object ≡ p.object) → (ps : List Placed) → among o (map (alter x g) ps) ≡ among o ps
any_altered o x g keeps [] = refl
any_altered o x g keeps (p ∷ ps) = rw (one_altered o x g keeps p, any_altered o x g keeps ps) refl

none_left : (a b : Bool) → b ≡ (not true && a) → b ≡ false
none_left a b e = e

cut_here : (o x : Object) (p : Placed) → same_object p.object x ≡ true → (not (same_object x o) && same_object p.object o) ≡ false
cut_here o x p y = rw (same_is p.object x y) (neither (same_object x o))
  where
    neither : (b : Bool) → (not b && b) ≡ false
    neither true = refl
    neither false = refl

spread : (n a b : Bool) → (n && (a || b)) ≡ ((n && a) || (n && b))
spread true a b = refl
spread false a b = refl

cut_other : (o x : Object) (p : Placed) → same_object p.object x ≡ false → same_object p.object o ≡ (not (same_object x o) && same_object p.object o)
cut_other o x p n = elim (cases_Bool (same_object p.object o)) [
  | inl y ↦
      let e : p.object ≡ o = same_is p.object o y in
      let other : same_object x o ≡ false = elim (cases_Bool (same_object x o)) [
        | inl z ↦ let clash : same_object p.object x ≡ true = rw (e, same_is x o z) (same_self o) in cc
        | inr z ↦ z
      ] in
      rw (y, other) refl
  | inr m ↦ rw m (never (not (same_object x o)))
]
  where
    never : (b : Bool) → false ≡ (b && false)
    never true = refl
    never false = refl

any_cut : (o x : Object) (ps : List Placed) → among o (filter (kept x) ps) ≡ (not (same_object x o) && among o ps)
any_cut o x [] = never (not (same_object x o))
  where
    never : (b : Bool) → false ≡ (b && false)
    never true = refl
    never false = refl
any_cut o x (p ∷ ps) = elim (cases_Bool (same_object p.object x)) [
  | inl y ↦ rw y (any_cut o x ps ∙ sym (spread (not (same_object x o)) (same_object p.object o) (among o ps) ∙ rw (cut_here o x p y) refl))
  | inr n ↦ rw n (ap (λ b. same_object p.object o || b) (any_cut o x ps) ∙ ap (λ b. b || (not (same_object x o) && among o ps)) (cut_other o x p n) ∙ sym (spread (not (same_object x o)) (same_object p.object o) (among o ps)))
]

-- ---- what is named

named_more : (o x : Object) (r b n m : Bool) → n ≡ (same_object x o || m) → (r || n) ≡ (same_object x o || (r || m))
named_more o x r b n m e = rw e (swapped r (same_object x o) m)

root_stays : (o x : Object) (m : Bool) → same_object x (Folder root) ≡ false → (same_object o (Folder root) || (not (same_object x o) && m)) ≡ (not (same_object x o) && (same_object o (Folder root) || m))
root_stays o x m other = elim (cases_Bool (same_object o (Folder root))) [
  | inl y ↦
      let apart : same_object x o ≡ false = rw (same_is o (Folder root) y) other in
      rw (y, apart) refl
  | inr n ↦ rw n refl
]

named_insert : (f g : Lists) (o : Object) (a b : List Placed) (new : Placed) → placed f ≡ a ++ b → placed g ≡ a ++ new ∷ b → is_named o g ≡ (same_object new.object o || is_named o f)
named_insert f g o a b new before after = rw (before, after) (ap (λ n. same_object o (Folder root) || n) (any_inserted (λ (p : Placed). same_object p.object o) a b new) ∙ swapped (same_object o (Folder root)) (same_object new.object o) (among o (a ++ b)))

named_alter : (f g : Lists) (o x : Object) (change : Placed → Placed) → ((p : Placed) → (change p).object ≡ p.object) → placed g ≡ map (alter x change) (placed f) → is_named o g ≡ is_named o f
named_alter f g o x change keeps after = rw after (ap (λ n. same_object o (Folder root) || n) (any_altered o x change keeps (placed f)))

named_cut : (f g : Lists) (o x : Object) → same_object x (Folder root) ≡ false → placed g ≡ filter (kept x) (placed f) → is_named o g ≡ (not (same_object x o) && is_named o f)
named_cut f g o x other after = rw after (ap (λ n. same_object o (Folder root) || n) (any_cut o x (placed f)) ∙ root_stays o x (among o (placed f)) other)

-- ---- what stands

-- what is named stands after an edit of what is placed, and subjects stay
abbrev pub MadeOne : Object → Lists → Lists → Type 0
MadeOne x f g = (o : Object) → stands o g ≡ (same_object x o || stands o f)

abbrev pub CutOne : Object → Lists → Lists → Type 0
CutOne x f g = (o : Object) → stands o g ≡ (not (same_object x o) && stands o f)

abbrev pub KeptAll : Lists → Lists → Type 0
KeptAll f g = (o : Object) → stands o g ≡ stands o f

pub folder_stands : (row : FolderRow) (d : ℕ) (f : Lists) → row.parent ≡ Some d → MadeOne (Folder row.id) f (happened (FolderMade row) f)
folder_stands row d f up o = go o
  where
    named : (o : Object) → is_named o (happened (FolderMade row) f) ≡ (same_object (Folder row.id) o || is_named o f)
    named o = named_insert f (happened (FolderMade row) f) o (placed_folders f.folders) (rest_places f.groups f.definitions f.attributes) (record { object = Folder row.id; folder = d; extension = row.extension })
        (placed_is f) (placed_is (happened (FolderMade row) f) ∙ places_folder f.folders row d (rest_places f.groups f.definitions f.attributes) up)

    go : (o : Object) → stands o (happened (FolderMade row) f) ≡ (same_object (Folder row.id) o || stands o f)
    go (Subject s) = refl
    go (Folder x) = named (Folder x)
    go (Group x) = named (Group x)
    go (Def x) = named (Def x)
    go (Attr x) = named (Attr x)

abbrev last_places : Lists → List Placed
last_places f = map placed_definition f.definitions ++ map placed_attribute f.attributes

pub group_stands : (row : GroupRow) (f : Lists) → MadeOne (Group row.id) f (happened (GroupMade row) f)
group_stands row f o = go o
  where
    named : (o : Object) → is_named o (happened (GroupMade row) f) ≡ (same_object (Group row.id) o || is_named o f)
    named o = named_insert f (happened (GroupMade row) f) o (placed_folders f.folders ++ map placed_group f.groups) (last_places f) (placed_group row)
        (placed_is f ∙ sym (append_assoc (placed_folders f.folders) (map placed_group f.groups) (last_places f))) (placed_is (happened (GroupMade row) f) ∙ places_group (placed_folders f.folders) f.groups row (last_places f))

    go : (o : Object) → stands o (happened (GroupMade row) f) ≡ (same_object (Group row.id) o || stands o f)
    go (Subject s) = refl
    go (Folder x) = named (Folder x)
    go (Group x) = named (Group x)
    go (Def x) = named (Def x)
    go (Attr x) = named (Attr x)

-- where an object is named more, it stands, and subjects stay
by_names_more : (f g : Lists) (x : Object) → g.subjects ≡ f.subjects → ((s : ℕ) → same_object x (Subject s) ≡ false) → ((o : Object) → is_named o g ≡ (same_object x o || is_named o f)) → MadeOne x f g
by_names_more f g x same none named (Subject s) = rw (none s, same) refl
by_names_more f g x same none named (Folder y) = named (Folder y)
by_names_more f g x same none named (Group y) = named (Group y)
by_names_more f g x same none named (Def y) = named (Def y)
by_names_more f g x same none named (Attr y) = named (Attr y)

pub definition_stands : (row : DefinitionRow) (f : Lists) → MadeOne (Def row.id) f (happened (DefinitionMade row) f)
definition_stands row f = by_names_more f (happened (DefinitionMade row) f) (Def row.id) refl (λ s. refl) (λ o. named_insert f (happened (DefinitionMade row) f) o (before_attributes f) (map placed_attribute f.attributes) (placed_definition row) (definition_split f) (definition_put row f))

pub attribute_stands : (row : AttributeRow) (f : Lists) → MadeOne (Attr row.id) f (happened (AttributeMade row) f)
attribute_stands row f = by_names_more f (happened (AttributeMade row) f) (Attr row.id) refl (λ s. refl) (λ o. named_insert f (happened (AttributeMade row) f) o (placed f) [] (placed_attribute row) (attribute_split f) (attribute_put row f))

subject_more : (s : ℕ) (ss : List SubjectRow) (row : SubjectRow) → has_subject s (ss ++ row ∷ []) ≡ ((row.id == s) || has_subject s ss)
subject_more s ss row = any_inserted (λ (r : SubjectRow). r.id == s) ss [] row ∙ ap (λ rows. (row.id == s) || has_subject s rows) (append-nil ss)

pub subject_stands : (row : SubjectRow) (f : Lists) → MadeOne (Subject row.id) f (happened (SubjectMade row) f)
unfolding placed
subject_stands row f (Subject s) = subject_more s f.subjects row
subject_stands row f (Folder x) = refl
subject_stands row f (Group x) = refl
subject_stands row f (Def x) = refl
subject_stands row f (Attr x) = refl

-- one object is named no longer, or all are named still
pub by_names : (f g : Lists) → g.subjects ≡ f.subjects → ((o : Object) → is_named o g ≡ is_named o f) → KeptAll f g
by_names f g same named (Subject s) = ap (has_subject s) same
by_names f g same named (Folder x) = named (Folder x)
by_names f g same named (Group x) = named (Group x)
by_names f g same named (Def x) = named (Def x)
by_names f g same named (Attr x) = named (Attr x)

by_names_cut : (f g : Lists) (x : Object) → g.subjects ≡ f.subjects → ((s : ℕ) → same_object x (Subject s) ≡ false) → ((o : Object) → is_named o g ≡ (not (same_object x o) && is_named o f)) → CutOne x f g
by_names_cut f g x same none named (Subject s) = rw (none s, same) refl
by_names_cut f g x same none named (Folder y) = named (Folder y)
by_names_cut f g x same none named (Group y) = named (Group y)
by_names_cut f g x same none named (Def y) = named (Def y)
by_names_cut f g x same none named (Attr y) = named (Attr y)

pub folder_named_still : (id : ℕ) (e : List ℕ) (f : Lists) → KeptAll f (happened (FolderRenamed id e) f)
folder_named_still id e f = by_names f (happened (FolderRenamed id e) f) refl (λ o. named_alter f (happened (FolderRenamed id e) f) o (Folder id) (titled e) (λ p. refl)
    (placed_is (happened (FolderRenamed id e) f) ∙ folder_altered f.groups f.definitions f.attributes id (titled e) f.folders (map (folder_renamed id e) f.folders) (folders_titled id e f.folders) ∙ ap (map (alter (Folder id) (titled e))) (sym (placed_is f))))

pub folder_moved_still : (id to : ℕ) (f : Lists) → IsSound f → IsPlaced (Folder id) f → KeptAll f (happened (FolderMoved id to) f)
folder_moved_still id to f sound at = by_names f (happened (FolderMoved id to) f) refl (λ o. named_alter f (happened (FolderMoved id to) f) o (Folder id) (sited to) (λ p. refl)
    (placed_is (happened (FolderMoved id to) f) ∙ folder_altered f.groups f.definitions f.attributes id (sited to) f.folders (map (folder_moved id to) f.folders) (folders_sited id to f.folders (begins_parent f.made.folders id f.folders (not_root f sound id at) sound.folders)) ∙ ap (map (alter (Folder id) (sited to))) (sym (placed_is f))))

pub group_named_still : (id : ℕ) (e : List ℕ) (f : Lists) → KeptAll f (happened (GroupRenamed id e) f)
group_named_still id e f = by_names f (happened (GroupRenamed id e) f) refl (λ o. named_alter f (happened (GroupRenamed id e) f) o (Group id) (titled e) (λ p. refl)
    (placed_is (happened (GroupRenamed id e) f) ∙ group_titled f.folders f.definitions f.attributes id e f.groups ∙ ap (map (alter (Group id) (titled e))) (sym (placed_is f))))

pub group_moved_still : (id to : ℕ) (f : Lists) → KeptAll f (happened (GroupMoved id to) f)
group_moved_still id to f = by_names f (happened (GroupMoved id to) f) refl (λ o. named_alter f (happened (GroupMoved id to) f) o (Group id) (sited to) (λ p. refl)
    (placed_is (happened (GroupMoved id to) f) ∙ group_sited f.folders f.definitions f.attributes id to f.groups ∙ ap (map (alter (Group id) (sited to))) (sym (placed_is f))))

turned_root : (id : ℕ) → (root == id) ≡ false → (id == root) ≡ false
turned_root id h = grind (arith, nat_tests, h)

pub folder_stands_no_more : (id : ℕ) (f : Lists) → IsSound f → IsPlaced (Folder id) f → CutOne (Folder id) f (happened (FolderGone id) f)
folder_stands_no_more id f sound at = by_names_cut f (happened (FolderGone id) f) (Folder id) refl (λ s. refl) (λ o. named_cut f (happened (FolderGone id) f) o (Folder id) (turned_root id (not_root f sound id at))
    (placed_is (happened (FolderGone id) f) ∙ folder_cut f.groups f.definitions f.attributes id f.folders ∙ ap (filter (kept (Folder id))) (sym (placed_is f))))

pub group_stands_no_more : (id : ℕ) (f : Lists) → CutOne (Group id) f (happened (GroupGone id) f)
group_stands_no_more id f = by_names_cut f (happened (GroupGone id) f) (Group id) refl (λ s. refl) (λ o. named_cut f (happened (GroupGone id) f) o (Group id) refl
    (placed_is (happened (GroupGone id) f) ∙ group_cut f.folders f.definitions f.attributes id f.groups ∙ ap (filter (kept (Group id))) (sym (placed_is f))))

pub definition_stands_no_more : (id : ℕ) (f : Lists) → CutOne (Def id) f (happened (DefinitionGone id) f)
definition_stands_no_more id f = by_names_cut f (happened (DefinitionGone id) f) (Def id) refl (λ s. refl) (λ o. named_cut f (happened (DefinitionGone id) f) o (Def id) refl (definition_cut id f))

pub attribute_stands_no_more : (id : ℕ) (f : Lists) → CutOne (Attr id) f (happened (AttributeGone id) f)
attribute_stands_no_more id f = by_names_cut f (happened (AttributeGone id) f) (Attr id) refl (λ s. refl) (λ o. named_cut f (happened (AttributeGone id) f) o (Attr id) refl (attribute_cut id f))

-- what is placed stands
any_placed : (o : Object) (ps : List Placed) (p : Placed) → place_of o ps ≡ Some p → among o ps ≡ true
any_placed o [] p h = cc
any_placed o (q ∷ ps) p h = elim (cases_Bool (same_object q.object o)) [
  | inl y ↦ rw y refl
  | inr n ↦ rw n (any_placed o ps p (rw n at h))
]

either : (a b : Bool) → b ≡ true → (a || b) ≡ true
either true b h = refl
either false b h = h

pub folder_is_there : (id : ℕ) (f : Lists) → IsPlaced (Folder id) f → stands (Folder id) f ≡ true
folder_is_there id f at = either (same_object (Folder id) (Folder root)) (among (Folder id) (placed f)) (any_placed (Folder id) (placed f) at.place at.at)

pub group_is_there : (id : ℕ) (f : Lists) → IsPlaced (Group id) f → stands (Group id) f ≡ true
group_is_there id f at = either (same_object (Group id) (Folder root)) (among (Group id) (placed f)) (any_placed (Group id) (placed f) at.place at.at)

pub definition_is_there : (id : ℕ) (f : Lists) → IsPlaced (Def id) f → stands (Def id) f ≡ true
definition_is_there id f at = either (same_object (Def id) (Folder root)) (among (Def id) (placed f)) (any_placed (Def id) (placed f) at.place at.at)

pub attribute_is_there : (id : ℕ) (f : Lists) → IsPlaced (Attr id) f → stands (Attr id) f ≡ true
attribute_is_there id f at = either (same_object (Attr id) (Folder root)) (among (Attr id) (placed f)) (any_placed (Attr id) (placed f) at.place at.at)
