-- An event leaves the grants of the objects that it doesn't touch as they were.
use Rattle.std.proofs.Common.{◌≡◌, ◌≤◌, ◌==◌, ◌&&◌, ◌||◌, ◌++◌, ◌+◌, ℕ, List, [], ◌∷◌, Bool, true, false, not, map, filter, if◌then◌else◌, Option, Some, None, option_map, is_some, arith, refl, sym, subst, ◌∙◌, ap, inl, inr}
use Rattle.std.specs.List.{AllByRecursion, list_any}
use Rattle.std.proofs.lemmas.Bool.{cases_Bool, eqb-true, or_parts, and_parts}
use Rattle.std.proofs.lemmas.Bool.Decides.{nat_tests}
use Rattle.reg_terms.specs.Kinds.{same_object, same_scope, same_kind, is_of_kind}
use Rattle.reg_terms.specs.declared.event.Event.{Event}
use Rattle.reg_terms.specs.declared.event.Event.TheVariants.{FolderMade, FolderRenamed, FolderMoved, FolderGone, GroupMade, GroupRenamed, GroupMoved, GroupGone, GrantAdded, GrantBegan, GrantRemoved, InheritAdded, InheritRemoved, DefinitionMade, DefinitionGone, AttributeMade, AttributeGone}
use Rattle.reg_terms.specs.declared.kinds.InheritKind.{InheritKind}
use Rattle.reg_terms.specs.declared.kinds.InheritKind.TheVariants as kind
use Rattle.reg_terms.specs.declared.kinds.Object.{Object}
use Rattle.reg_terms.specs.declared.kinds.Object.TheVariants as object
use Rattle.reg_terms.specs.declared.kinds.Scope.{Scope}
use Rattle.reg_terms.specs.declared.kinds.Scope.TheVariants.{One, Sub}
use Rattle.reg_terms.specs.declared.rows.AttributeRow.{AttributeRow}
use Rattle.reg_terms.specs.declared.rows.DefinitionRow.{DefinitionRow}
use Rattle.reg_terms.specs.declared.rows.FolderRow.{FolderRow}
use Rattle.reg_terms.specs.declared.rows.GroupRow.{GroupRow}
use Rattle.reg_terms.specs.declared.rows.GrantRow.{GrantRow}
use Rattle.reg_terms.specs.declared.rows.InheritRow.{InheritRow}
use Rattle.reg_facts.specs.Edits.{folder_renamed, folder_moved, group_renamed, group_moved}
use Rattle.reg_facts.specs.Events.{happened}
use Rattle.reg_facts.specs.Grants.{grants_on, has_begun, same_grant, same_inherit}
use Rattle.reg_facts.specs.Lists.{Lists}
use Rattle.reg_facts.specs.Naming.{Placed, placed, placed_folders, placed_group, placed_definition, placed_attribute, place_of, parent_of, folder_row, lies_in, most_levels}
use Rattle.reg_facts.specs.Sound.{IsSound, IsRooted, AscendFrom, BeginsAtRoot}
use Rattle.reg_facts.specs.Suiting.{Suits, holds_some}
use Rattle.reg_names.specs.Scopes.{place_in_scope, in_scope}
use Rattle.reg_priv.specs.Grants.{written, given, reaches, grants}
use Rattle.reg_priv.specs.Touched.{touched}
use Rattle.reg_priv.proofs.Homes.{home_in, home_fewer, home_pushed, same_home, same_homes, by_folders, folder_made, folder_named, folder_put, folder_taken, by_groups, group_made, group_named, group_put, group_taken, parent_made, parent_named, parent_put, parent_taken, lies_alike, lies_beside, lies_nowhere, lies_apart, home_holds, parent_holds, of_folders}

-- ---- lists

filter_alike : {X : Type 0} (p q : X → Bool) (xs : List X) → ((x : X) → p x ≡ q x) → filter p xs ≡ filter q xs
filter_alike p q [] h = refl
filter_alike p q (x ∷ xs) h = elim (cases_Bool (q x)) [
  | inl y ↦ rw (h x, y) (ap (λ more. x ∷ more) (filter_alike p q xs h))
  | inr y ↦ rw (h x, y) (filter_alike p q xs h)
]

-- one more that doesn't pass
filter_more : {X : Type 0} (p : X → Bool) (xs : List X) (x : X) → p x ≡ false → filter p (xs ++ x ∷ []) ≡ filter p xs
filter_more p [] x h = rw h refl
filter_more p (y ∷ ys) x h = elim (cases_Bool (p y)) [
  | inl e ↦ rw e (ap (λ more. y ∷ more) (filter_more p ys x h))
  | inr e ↦ rw e (filter_more p ys x h)
]

-- some fewer that don't pass
filter_fewer : {X : Type 0} (p q : X → Bool) (xs : List X) → ((x : X) → q x ≡ false → p x ≡ false) → filter p (filter q xs) ≡ filter p xs
filter_fewer p q [] h = refl
filter_fewer p q (x ∷ xs) h = elim (cases_Bool (q x)) [
  | inl y ↦ elim (cases_Bool (p x)) [
    | inl z ↦ rw (y, z) (ap (λ more. x ∷ more) (filter_fewer p q xs h))
    | inr z ↦ rw (y, z) (filter_fewer p q xs h)
  ]
  | inr y ↦ rw (y, h x y) (filter_fewer p q xs h)
]

-- one that doesn't pass in the place of some that don't
filter_put : {X : Type 0} (p q : X → Bool) (put : X) (xs : List X) → p put ≡ false → ((x : X) → q x ≡ true → p x ≡ false) → filter p (map (λ x. if q x then put else x) xs) ≡ filter p xs
filter_put p q put [] none h = refl
filter_put p q put (x ∷ xs) none h = elim (cases_Bool (q x)) [
  | inl y ↦ rw (y, none, h x y) (filter_put p q put xs none h)
  | inr y ↦ elim (cases_Bool (p x)) [
    | inl z ↦ rw (y, z) (ap (λ more. x ∷ more) (filter_put p q put xs none h))
    | inr z ↦ rw (y, z) (filter_put p q put xs none h)
  ]
]

not_not : (b : Bool) → not b ≡ false → b ≡ true
not_not true h = refl
not_not false h = cc

pub one_object : (a b : Object) → same_object a b ≡ true → a ≡ b
one_object (object.Folder a) (object.Folder b) h = ap object.Folder (eqb-true a b h)
one_object (object.Group a) (object.Group b) h = ap object.Group (eqb-true a b h)
one_object (object.Def a) (object.Def b) h = ap object.Def (eqb-true a b h)
one_object (object.Attr a) (object.Attr b) h = ap object.Attr (eqb-true a b h)
one_object (object.Subject a) (object.Subject b) h = ap object.Subject (eqb-true a b h)
one_object _ _ h = cc

one_scope : (a b : Scope) → same_scope a b ≡ true → a ≡ b
one_scope One One h = refl
one_scope One Sub h = cc
one_scope Sub One h = cc
one_scope Sub Sub h = refl

one_kind : (a b : InheritKind) → same_kind a b ≡ true → a ≡ b
one_kind kind.Folder kind.Folder h = refl
one_kind kind.Group kind.Group h = refl
one_kind kind.Definition kind.Definition h = refl
one_kind _ _ h = cc

-- ---- what reaches an object, told by the folder in which it stands

abbrev pub home_in_scope : ℕ → Scope → Option ℕ → List FolderRow → Bool
home_in_scope folder scope None fs = false
home_in_scope folder One (Some home) fs = home == folder
home_in_scope folder Sub (Some home) fs = lies_in most_levels home folder fs

pub by_home : (folder : ℕ) (scope : Scope) (o : Object) (f : Lists) → in_scope folder scope o f ≡ home_in_scope folder scope (home_in o (placed f)) f.folders
by_home folder scope o f = go (place_of o (placed f)) scope
  where
    go : (q : Option Placed) (s : Scope) → place_in_scope folder s q f ≡ home_in_scope folder s (option_map (λ (p : Placed). p.folder) q) f.folders
    go None s = refl
    go (Some p) One = refl
    go (Some p) Sub = refl

scope_alike : (folder : ℕ) (scope : Scope) (home : Option ℕ) (fs gs : List FolderRow) → ((d : ℕ) → home ≡ Some d → lies_in most_levels d folder gs ≡ lies_in most_levels d folder fs)
    → home_in_scope folder scope home gs ≡ home_in_scope folder scope home fs
scope_alike folder scope None fs gs h = refl
scope_alike folder One (Some d) fs gs h = refl
scope_alike folder Sub (Some d) fs gs h = h d refl

-- what stands where it stood, below the same folders, is reached as it was
pub record StandsAlike (o : Object) (f g : Lists) : Type 0 where
  pub home : home_in o (placed g) ≡ home_in o (placed f)
  pub above : (d x : ℕ) → home_in o (placed f) ≡ Some d → lies_in most_levels d x g.folders ≡ lies_in most_levels d x f.folders

reached_alike : (o : Object) (f g : Lists) → StandsAlike o f g → (row : InheritRow) → reaches o g row ≡ reaches o f row
reached_alike o f g h row = ap (λ b. is_of_kind row.kind o && b) (
    by_home row.folder row.scope o g
    ∙ (ap (λ home. home_in_scope row.folder row.scope home g.folders) h.home
    ∙ (scope_alike row.folder row.scope (home_in o (placed f)) f.folders g.folders (λ d e. h.above d row.folder e)
    ∙ sym (by_home row.folder row.scope o f))))

grants_alike : (o : Object) (f g : Lists) → StandsAlike o f g → grants_on o g.grants ≡ grants_on o f.grants → filter (reaches o f) g.inherits ≡ filter (reaches o f) f.inherits → grants o g ≡ grants o f
grants_alike o f g h direct inherited =
    let reached : filter (reaches o g) g.inherits ≡ filter (reaches o f) f.inherits = filter_alike (reaches o g) (reaches o f) g.inherits (reached_alike o f g h) ∙ inherited in
    ap (λ rows. map written (filter has_begun rows) ++ map given (filter (reaches o g) g.inherits)) direct ∙ ap (λ rows. map written (filter has_begun (grants_on o f.grants)) ++ map given rows) reached

-- ---- events that move nothing

same_place : (o : Object) (f g : Lists) → g.folders ≡ f.folders → g.groups ≡ f.groups → g.definitions ≡ f.definitions → g.attributes ≡ f.attributes → StandsAlike o f g
same_place o f g a b c d = record {
  home = same_home o f g (ap (λ rows. home_in o (placed_folders rows)) a) (ap (λ rows. home_in o (map placed_group rows)) b) c d;
  above = λ e x h. ap (λ rows. lies_in most_levels e x rows) a;
}

pub stays : (o : Object) (f g : Lists) → g.folders ≡ f.folders → g.groups ≡ f.groups → g.definitions ≡ f.definitions → g.attributes ≡ f.attributes → g.grants ≡ f.grants → g.inherits ≡ f.inherits → grants o g ≡ grants o f
stays o f g a b c d direct inherited = grants_alike o f g (same_place o f g a b c d) (ap (grants_on o) direct) (ap (filter (reaches o f)) inherited)

grant_added : (row : GrantRow) (f : Lists) (o : Object) → same_object row.object o ≡ false → grants o (happened (GrantAdded row) f) ≡ grants o f
grant_added row f o h = grants_alike o f (happened (GrantAdded row) f) (same_place o f (happened (GrantAdded row) f) refl refl refl refl) (filter_more (λ (r : GrantRow). same_object r.object o) f.grants row h) refl

-- a grant on another object in the place of another on that one
grant_began : (row : GrantRow) (f : Lists) (o : Object) → same_object row.object o ≡ false → grants o (happened (GrantBegan row) f) ≡ grants o f
grant_began row f o h = grants_alike o f (happened (GrantBegan row) f) (same_place o f (happened (GrantBegan row) f) refl refl refl refl)
    (filter_put (λ (r : GrantRow). same_object r.object o) (same_grant row) row f.grants h other) refl
  where
    other : (r : GrantRow) → same_grant row r ≡ true → same_object r.object o ≡ false
    other r e =
        let both = and_parts (same_object r.object row.object) _ e in
        rw (one_object r.object row.object both.0) h

grant_removed : (row : GrantRow) (f : Lists) (o : Object) → same_object row.object o ≡ false → grants o (happened (GrantRemoved row) f) ≡ grants o f
grant_removed row f o h = grants_alike o f (happened (GrantRemoved row) f) (same_place o f (happened (GrantRemoved row) f) refl refl refl refl)
    (filter_fewer (λ (r : GrantRow). same_object r.object o) (λ (r : GrantRow). not (same_grant row r)) f.grants other) refl
  where
    other : (r : GrantRow) → not (same_grant row r) ≡ false → same_object r.object o ≡ false
    other r e =
        let both = and_parts (same_object r.object row.object) _ (not_not (same_grant row r) e) in
        rw (one_object r.object row.object both.0) h

inherit_added : (row : InheritRow) (f : Lists) (o : Object) → reaches o f row ≡ false → grants o (happened (InheritAdded row) f) ≡ grants o f
inherit_added row f o h = grants_alike o f (happened (InheritAdded row) f) (same_place o f (happened (InheritAdded row) f) refl refl refl refl) refl (filter_more (reaches o f) f.inherits row h)

reach_is : (o : Object) (f : Lists) (a b : InheritRow) → a.folder ≡ b.folder → a.kind ≡ b.kind → a.scope ≡ b.scope → reaches o f a ≡ reaches o f b
reach_is o f a b d k s = rw (d, k, s) refl

inherit_removed : (row : InheritRow) (f : Lists) (o : Object) → reaches o f row ≡ false → grants o (happened (InheritRemoved row) f) ≡ grants o f
inherit_removed row f o h = grants_alike o f (happened (InheritRemoved row) f) (same_place o f (happened (InheritRemoved row) f) refl refl refl refl) refl
    (filter_fewer (reaches o f) (λ (r : InheritRow). not (same_inherit row r)) f.inherits other)
  where
    other : (r : InheritRow) → not (same_inherit row r) ≡ false → reaches o f r ≡ false
    other r e =
        let first = and_parts (r.folder == row.folder) _ (not_not (same_inherit row r) e) in
        let second = and_parts (same_kind r.kind row.kind) _ first.1 in
        let third = and_parts (same_scope r.scope row.scope) _ second.1 in
        reach_is o f r row (eqb-true r.folder row.folder first.0) (one_kind r.kind row.kind second.0) (one_scope r.scope row.scope third.0) ∙ h

-- ---- groups

group_moves : (o : Object) (f g : Lists) → g.folders ≡ f.folders → home_in o (map placed_group g.groups) ≡ home_in o (map placed_group f.groups) → g.definitions ≡ f.definitions → g.attributes ≡ f.attributes → StandsAlike o f g
group_moves o f g a b c d = record {
  home = same_home o f g (ap (λ rows. home_in o (placed_folders rows)) a) b c d;
  above = λ e x h. ap (λ rows. lies_in most_levels e x rows) a;
}

group_made_apart : (row : GroupRow) (f : Lists) (o : Object) → same_object (object.Group row.id) o ≡ false → grants o (happened (GroupMade row) f) ≡ grants o f
group_made_apart row f o h = grants_alike o f (happened (GroupMade row) f)
    (group_moves o f (happened (GroupMade row) f) refl (by_groups o (f.groups ++ row ∷ []) ∙ (group_made o row f.groups h ∙ sym (by_groups o f.groups))) refl refl) refl refl

group_renamed_apart : (id : ℕ) (e : List ℕ) (f : Lists) (o : Object) → grants o (happened (GroupRenamed id e) f) ≡ grants o f
group_renamed_apart id e f o = grants_alike o f (happened (GroupRenamed id e) f)
    (group_moves o f (happened (GroupRenamed id e) f) refl (by_groups o (map (group_renamed id e) f.groups) ∙ (group_named o id e f.groups ∙ sym (by_groups o f.groups))) refl refl) refl refl

group_moved_apart : (id to : ℕ) (f : Lists) (o : Object) → same_object (object.Group id) o ≡ false → grants o (happened (GroupMoved id to) f) ≡ grants o f
group_moved_apart id to f o h = grants_alike o f (happened (GroupMoved id to) f)
    (group_moves o f (happened (GroupMoved id to) f) refl (by_groups o (map (group_moved id to) f.groups) ∙ (group_put o id to f.groups h ∙ sym (by_groups o f.groups))) refl refl) refl refl

-- the grants on an object that isn't the one whose grants go
others_stay : (gone o : Object) (rows : List GrantRow) → same_object gone o ≡ false → grants_on o (filter (λ (row : GrantRow). not (same_object row.object gone)) rows) ≡ grants_on o rows
others_stay gone o rows h = filter_fewer (λ (r : GrantRow). same_object r.object o) (λ (r : GrantRow). not (same_object r.object gone)) rows other
  where
    other : (r : GrantRow) → not (same_object r.object gone) ≡ false → same_object r.object o ≡ false
    other r e = rw (one_object r.object gone (not_not (same_object r.object gone) e)) h

group_gone_apart : (id : ℕ) (f : Lists) (o : Object) → same_object (object.Group id) o ≡ false → grants o (happened (GroupGone id) f) ≡ grants o f
group_gone_apart id f o h = grants_alike o f (happened (GroupGone id) f)
    (group_moves o f (happened (GroupGone id) f) refl (by_groups o (filter (λ (row : GroupRow). not (row.id == id)) f.groups) ∙ (group_taken o id f.groups h ∙ sym (by_groups o f.groups))) refl refl)
    (others_stay (object.Group id) o f.grants h) refl

-- ---- definitions and attributes

attributes_move : (o : Object) (f g : Lists) → g.folders ≡ f.folders → g.groups ≡ f.groups → home_in o (map placed_definition g.definitions) ≡ home_in o (map placed_definition f.definitions) → home_in o (map placed_attribute g.attributes) ≡ home_in o (map placed_attribute f.attributes) → StandsAlike o f g
attributes_move o f g a b c d = record {
  home = same_homes o f g (ap (λ rows. home_in o (placed_folders rows)) a) (ap (λ rows. home_in o (map placed_group rows)) b) c d;
  above = λ e x h. ap (λ rows. lies_in most_levels e x rows) a;
}

definition_made_apart : (row : DefinitionRow) (f : Lists) (o : Object) → same_object (object.Def row.id) o ≡ false → grants o (happened (DefinitionMade row) f) ≡ grants o f
definition_made_apart row f o h = grants_alike o f (happened (DefinitionMade row) f) (attributes_move o f (happened (DefinitionMade row) f) refl refl (home_pushed placed_definition o row f.definitions h) refl) refl refl

definition_gone_apart : (id : ℕ) (f : Lists) (o : Object) → same_object (object.Def id) o ≡ false → grants o (happened (DefinitionGone id) f) ≡ grants o f
definition_gone_apart id f o h = grants_alike o f (happened (DefinitionGone id) f)
    (attributes_move o f (happened (DefinitionGone id) f) refl refl (home_fewer placed_definition (λ (row : DefinitionRow). row.id == id) o f.definitions (λ row y. subst (λ (x : ℕ). same_object (object.Def x) o ≡ false) (sym (eqb-true row.id id y)) h)) refl)
    (others_stay (object.Def id) o f.grants h) refl

attribute_made_apart : (row : AttributeRow) (f : Lists) (o : Object) → same_object (object.Attr row.id) o ≡ false → grants o (happened (AttributeMade row) f) ≡ grants o f
attribute_made_apart row f o h = grants_alike o f (happened (AttributeMade row) f) (attributes_move o f (happened (AttributeMade row) f) refl refl refl (home_pushed placed_attribute o row f.attributes h)) refl refl

attribute_gone_apart : (id : ℕ) (f : Lists) (o : Object) → same_object (object.Attr id) o ≡ false → grants o (happened (AttributeGone id) f) ≡ grants o f
attribute_gone_apart id f o h = grants_alike o f (happened (AttributeGone id) f)
    (attributes_move o f (happened (AttributeGone id) f) refl refl refl (home_fewer placed_attribute (λ (row : AttributeRow). row.id == id) o f.attributes (λ row y. subst (λ (x : ℕ). same_object (object.Attr x) o ≡ false) (sym (eqb-true row.id id y)) h))) refl refl

-- ---- folders

folder_renamed_apart : (id : ℕ) (e : List ℕ) (f : Lists) (o : Object) → grants o (happened (FolderRenamed id e) f) ≡ grants o f
folder_renamed_apart id e f o = grants_alike o f (happened (FolderRenamed id e) f) (record {
  home = same_home o f (happened (FolderRenamed id e) f) (by_folders o (map (folder_renamed id e) f.folders) ∙ (folder_named o id e f.folders ∙ sym (by_folders o f.folders))) refl refl refl;
  above = λ d x h. lies_alike f.folders (map (folder_renamed id e) f.folders) (λ y. parent_named y id e f.folders) most_levels d x;
}) refl refl

-- nothing stands in a folder of this id
abbrev pub StandsNone : ℕ → Lists → Type 0
StandsNone x f = AllByRecursion (λ (p : Placed). (p.folder == x) ≡ false) (placed f)

no_home : (x : ℕ) (f : Lists) (o : Object) (d : ℕ) → StandsNone x f → home_in o (placed f) ≡ Some d → (d == x) ≡ false
no_home x f o d none h = home_holds (λ n. (n == x) ≡ false) o (placed f) d none h

no_parent : (x : ℕ) (f : Lists) → StandsNone x f → (y p : ℕ) → parent_of y f.folders ≡ Some p → (p == x) ≡ false
no_parent x f none y p h = parent_holds (λ n. (n == x) ≡ false) y f.folders p (of_folders (λ (q : Placed). (q.folder == x) ≡ false) f none) h

-- a folder that stands was made
at_most : (floor top d : ℕ) (rows : List FolderRow) → AscendFrom floor top (map (λ (r : FolderRow). r.id) rows) → is_some (folder_row d rows) ≡ true → d ≤ top
at_most floor top d [] a h = cc
at_most floor top d (r ∷ rows) a h = elim (cases_Bool (r.id == d)) [
  | inl y ↦ let same : r.id ≡ d = eqb-true r.id d y in rw (sym same) (top_of r.id top (map (λ (s : FolderRow). s.id) rows) a.1)
  | inr y ↦ at_most r.id top d rows a.1 (rw y at h)
]
  where
    top_of : (floor top : ℕ) (ids : List ℕ) → AscendFrom floor top ids → floor ≤ top
    top_of floor top [] a = a
    top_of floor top (n ∷ ns) a = omega (arith, a.0, top_of n top ns a.1)

was_made : (top d : ℕ) (rows : List FolderRow) → BeginsAtRoot top rows → is_some (folder_row d rows) ≡ true → d ≤ top
was_made top d [] b h = absurd b
was_made top d (r ∷ rows) b h = elim (cases_Bool (r.id == d)) [
  | inl y ↦
      let same : r.id ≡ d = eqb-true r.id d y in
      let first : r.id ≡ 0 = ap (λ (row : FolderRow). row.id) b.0 in
      omega (arith, same, first)
  | inr y ↦ at_most 0 top d rows b.1 (rw y at h)
]

new_holds_none : (x : ℕ) (f : Lists) → IsSound f → x ≡ f.made.folders + 1 → StandsNone x f
new_holds_none x f sound new = go (placed f) sound.rooted
  where
    go : (ps : List Placed) → AllByRecursion (λ (p : Placed). IsRooted f.folders p.folder) ps → AllByRecursion (λ (p : Placed). (p.folder == x) ≡ false) ps
    go [] all = tt
    go (p ∷ ps) all =
        let made : p.folder ≤ f.made.folders = was_made f.made.folders p.folder f.folders sound.folders all.0.stands in
        (grind (arith, nat_tests, made, new), go ps all.1)

none_held : (x : ℕ) (ps : List Placed) → list_any (λ (p : Placed). p.folder == x) ps ≡ false → AllByRecursion (λ (p : Placed). (p.folder == x) ≡ false) ps
none_held x [] h = tt
none_held x (p ∷ ps) h = let parts = or_parts (p.folder == x) (list_any (λ (q : Placed). q.folder == x) ps) h in (parts.0, none_held x ps parts.1)

folder_made_apart : (row : FolderRow) (f : Lists) (o : Object) → IsSound f → row.id ≡ f.made.folders + 1 → same_object (object.Folder row.id) o ≡ false → grants o (happened (FolderMade row) f) ≡ grants o f
folder_made_apart row f o sound new h =
    let none : StandsNone row.id f = new_holds_none row.id f sound new in
    grants_alike o f (happened (FolderMade row) f) (record {
      home = same_home o f (happened (FolderMade row) f) (by_folders o (f.folders ++ row ∷ []) ∙ (folder_made o row f.folders h ∙ sym (by_folders o f.folders))) refl refl refl;
      above = λ d x e. lies_beside row.id f.folders (f.folders ++ row ∷ []) (λ y k. parent_made y row f.folders k) (no_parent row.id f none) most_levels d x (no_home row.id f o d none e);
    }) refl refl

folder_moved_apart : (id to : ℕ) (f : Lists) (o : Object) → (same_object (object.Folder id) o || in_scope id Sub o f) ≡ false → grants o (happened (FolderMoved id to) f) ≡ grants o f
folder_moved_apart id to f o h =
    let parts = or_parts (same_object (object.Folder id) o) (in_scope id Sub o f) h in
    let outside : home_in_scope id Sub (home_in o (placed f)) f.folders ≡ false = sym (by_home id Sub o f) ∙ parts.1 in
    grants_alike o f (happened (FolderMoved id to) f) (record {
      home = same_home o f (happened (FolderMoved id to) f) (by_folders o (map (folder_moved id to) f.folders) ∙ (folder_put o id to f.folders parts.0 ∙ sym (by_folders o f.folders))) refl refl refl;
      above = λ d x e. lies_apart id f.folders (map (folder_moved id to) f.folders) (λ y k. parent_put y id to f.folders k) most_levels d x (rw e at outside);
    }) refl refl

folder_gone_apart : (id : ℕ) (f : Lists) (o : Object) → holds_some id f ≡ false → same_object (object.Folder id) o ≡ false → grants o (happened (FolderGone id) f) ≡ grants o f
folder_gone_apart id f o empty h =
    let none : StandsNone id f = none_held id (placed f) empty in
    grants_alike o f (happened (FolderGone id) f) (record {
      home = same_home o f (happened (FolderGone id) f) (by_folders o (filter (λ (row : FolderRow). not (row.id == id)) f.folders) ∙ (folder_taken o id f.folders h ∙ sym (by_folders o f.folders))) refl refl refl;
      above = λ d x e. lies_beside id f.folders (filter (λ (row : FolderRow). not (row.id == id)) f.folders) (λ y k. parent_taken y id f.folders k) (no_parent id f none) most_levels d x (no_home id f o d none e);
    }) (others_stay (object.Folder id) o f.grants h) (filter_fewer (reaches o f) (λ (row : InheritRow). not (row.folder == id)) f.inherits (λ row e. unreached none row (eqb-true row.folder id (not_not (row.folder == id) e))))
  where
    in_none : StandsNone id f → (scope : Scope) (home : Option ℕ) → home_in o (placed f) ≡ home → home_in_scope id scope home f.folders ≡ false
    in_none none scope None e = refl
    in_none none One (Some d) e = no_home id f o d none e
    in_none none Sub (Some d) e = lies_nowhere id f.folders (no_parent id f none) most_levels d (no_home id f o d none e)

    and_none : (b : Bool) → (b && false) ≡ false
    and_none true = refl
    and_none false = refl

    unreached : StandsNone id f → (row : InheritRow) → row.folder ≡ id → reaches o f row ≡ false
    unreached none row same = rw (same, by_home id row.scope o f, in_none none row.scope (home_in o (placed f)) refl) (and_none (is_of_kind row.kind o))

-- ---- all events

pub untouched : (e : Event) (f : Lists) (o : Object) → IsSound f → Suits e f → touched e f o ≡ false → grants o (happened e f) ≡ grants o f
untouched (FolderMade row) f o sound s h = folder_made_apart row f o sound s.0 h
untouched (FolderRenamed id e) f o sound s h = folder_renamed_apart id e f o
untouched (FolderMoved id to) f o sound s h = folder_moved_apart id to f o h
untouched (FolderGone id) f o sound s h = folder_gone_apart id f o s.1 h
untouched (GroupMade row) f o sound s h = group_made_apart row f o h
untouched (GroupRenamed id e) f o sound s h = group_renamed_apart id e f o
untouched (GroupMoved id to) f o sound s h = group_moved_apart id to f o h
untouched (GroupGone id) f o sound s h = group_gone_apart id f o h
untouched (DefinitionMade row) f o sound s h = definition_made_apart row f o h
untouched (DefinitionGone id) f o sound s h = definition_gone_apart id f o h
untouched (AttributeMade row) f o sound s h = attribute_made_apart row f o h
untouched (AttributeGone id) f o sound s h = attribute_gone_apart id f o h
untouched (GrantAdded row) f o sound s h = grant_added row f o h
untouched (GrantBegan row) f o sound s h = grant_began row f o h
untouched (GrantRemoved row) f o sound s h = grant_removed row f o h
untouched (InheritAdded row) f o sound s h = inherit_added row f o h
untouched (InheritRemoved row) f o sound s h = inherit_removed row f o h
untouched e f o sound s h = stays o f (happened e f) refl refl refl refl refl refl
