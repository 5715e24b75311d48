-- What is found in a folder, or from one down, stands there.
use Rattle.std.specs.Prelude.{is_some}
use Rattle.std.specs.List.{AllByRecursion}
use Rattle.std.proofs.Common.{◌≡◌, ◌≤◌, ◌<◌, ◌+◌, ◌==◌, ◌&&◌, ◌||◌, ◌++◌, ◌⊎◌, ℕ, zero, suc, List, [], ◌∷◌, Bool, true, false, map, length, take, drop, get_or, Option, Some, None, option_map, bytes_eq, arith, refl, sym, ◌∙◌, ap, inl, inr}
use Rattle.std.proofs.lemmas.Bool.{cases_Bool, or_cases, and_parts, eqb-true, eq-eqb}
use Rattle.std.proofs.lemmas.List.{take-append-drop, take_more}
use Rattle.std.proofs.lemmas.List.Folds.{list_any-append}
use Rattle.reg_terms.specs.Kinds.{same_object, as_folder}
use Rattle.reg_terms.specs.declared.kinds.Object.{Object}
use Rattle.reg_terms.specs.declared.kinds.Object.TheVariants.{Folder, Group, Def, Attr, Subject}
use Rattle.reg_terms.specs.declared.kinds.Scope.TheVariants.{One}
use Rattle.reg_terms.specs.declared.rows.FolderRow.{FolderRow}
use Rattle.reg_terms.specs.declared.rows.GroupRow.{GroupRow}
use Rattle.reg_terms.specs.declared.rows.DefinitionRow.{DefinitionRow}
use Rattle.reg_terms.specs.declared.rows.AttributeRow.{AttributeRow}
use Rattle.reg_facts.specs.Lists.{Lists}
use Rattle.reg_facts.specs.Naming.{Placed, placed, placed_folders, placed_group, placed_definition, placed_attribute, place_of, found_in, is_there, child, parent_of, lies_in}
use Rattle.reg_facts.specs.Sound.{IsSound, AscendFrom, BeginsAtRoot}
use Rattle.reg_names.specs.Scopes.{in_scope, place_in_scope}
use Rattle.reg_priv.specs.Touched.{is_listed, place_below, AddsOnly}
use Rattle.reg_priv.proofs.Homes.{home_in, or_home, home_placed, by_folders, folder_home}
use Rattle.reg_priv.proofs.Untouched.{one_object, home_in_scope, by_home}
use Rattle.reg_priv.proofs.Below.{or_true, lies_itself, up_one, listed_more, stays_listed, now_listed}

-- ---- objects of one kind, each once

abbrev number_of : Object → ℕ
number_of (Folder a) = a
number_of (Group a) = a
number_of (Def a) = a
number_of (Attr a) = a
number_of (Subject a) = a

abbrev kind_of : Object → ℕ
kind_of (Folder a) = 0
kind_of (Group a) = 1
kind_of (Def a) = 2
kind_of (Attr a) = 3
kind_of (Subject a) = 4

abbrev AreOfKind : ℕ → List Placed → Type 0
AreOfKind k ps = AllByRecursion (λ (p : Placed). kind_of p.object ≡ k) ps

abbrev Rising : ℕ → ℕ → List Placed → Type 0
Rising floor top ps = AscendFrom floor top (map (λ (p : Placed). number_of p.object) ps)

itself : (a b : Object) → a ≡ b → same_object a b ≡ true
itself (Folder a) b h = rw (sym h) (eq-eqb a a refl)
itself (Group a) b h = rw (sym h) (eq-eqb a a refl)
itself (Def a) b h = rw (sym h) (eq-eqb a a refl)
itself (Attr a) b h = rw (sym h) (eq-eqb a a refl)
itself (Subject a) b h = rw (sym h) (eq-eqb a a refl)

one_of : (a b : Object) → Some a ≡ Some b → a ≡ b
one_of a b h = cc

one_number : (a b : ℕ) → Some a ≡ Some b → a ≡ b
one_number a b h = cc

none_some : (q : Option ℕ) (d : ℕ) → q ≡ None → q ≡ Some d → ⊥
none_some q d a b = let k : None ≡ Some d = sym a ∙ b in cc

found_kind : (k d : ℕ) (e : List ℕ) (ps : List Placed) (o : Object) → AreOfKind k ps → found_in d e ps ≡ Some o → kind_of o ≡ k
found_kind k d e [] o all h = cc
found_kind k d e (p ∷ ps) o all h = elim (cases_Bool (is_there d e p)) [
  | inl t ↦ let same : p.object ≡ o = one_of p.object o (rw t at h) in ap kind_of (sym same) ∙ all.0
  | inr t ↦ found_kind k d e ps o all.1 (rw t at h)
]

no_kind : (k : ℕ) (ps : List Placed) (o : Object) → AreOfKind k ps → (kind_of o ≡ k → ⊥) → home_in o ps ≡ None
no_kind k [] o all h = refl
no_kind k (p ∷ ps) o all h = elim (cases_Bool (same_object p.object o)) [
  | inl y ↦ absurd (h (ap kind_of (sym (one_object p.object o y)) ∙ all.0))
  | inr y ↦ rw y (no_kind k ps o all.1 h)
]

-- none of so low a number stands among those that rise
risen : (floor top : ℕ) (ps : List Placed) (o : Object) → Rising floor top ps → number_of o ≤ floor → home_in o ps ≡ None
risen floor top [] o rising h = refl
risen floor top (p ∷ ps) o rising h = elim (cases_Bool (same_object p.object o)) [
  | inl y ↦
      let same : number_of p.object ≡ number_of o = ap number_of (one_object p.object o y) in
      absurd (omega (arith, rising.0, h, same))
  | inr y ↦ rw y (risen (number_of p.object) top ps o rising.1 (omega (arith, rising.0, h)))
]

found_home : (floor top d : ℕ) (e : List ℕ) (ps : List Placed) (o : Object) → Rising floor top ps → found_in d e ps ≡ Some o → home_in o ps ≡ Some d
found_home floor top d e [] o rising h = cc
found_home floor top d e (p ∷ ps) o rising h = elim (cases_Bool (is_there d e p)) [
  | inl t ↦
      let same : p.object ≡ o = one_of p.object o (rw t at h) in
      let at : p.folder ≡ d = eqb-true p.folder d (and_parts (p.folder == d) (bytes_eq p.extension e) t).0 in
      rw (itself p.object o same) (ap Some at)
  | inr t ↦
      let rest : home_in o ps ≡ Some d = found_home (number_of p.object) top d e ps o rising.1 (rw t at h) in
      elim (cases_Bool (same_object p.object o)) [
        | inl y ↦
            let same : number_of o ≡ number_of p.object = ap number_of (sym (one_object p.object o y)) in
            absurd (none_some (home_in o ps) d (risen (number_of p.object) top ps o rising.1 (omega (arith, same))) rest)
        | inr y ↦ rw y rest
      ]
]

-- ---- the rows of each kind

folders_kind : (rows : List FolderRow) → AreOfKind 0 (placed_folders rows)
folders_kind [] = tt
folders_kind (r ∷ rows) = go r.parent refl (folders_kind rows)
  where
    go : (q : Option ℕ) → r.parent ≡ q → AreOfKind 0 (placed_folders rows) → AreOfKind 0 (placed_folders (r ∷ rows))
    go None e more = rw e more
    go (Some p) e more = rw e (refl, more)

groups_kind : (rows : List GroupRow) → AreOfKind 1 (map placed_group rows)
groups_kind [] = tt
groups_kind (r ∷ rows) = (refl, groups_kind rows)

definitions_kind : (rows : List DefinitionRow) → AreOfKind 2 (map placed_definition rows)
definitions_kind [] = tt
definitions_kind (r ∷ rows) = (refl, definitions_kind rows)

attributes_kind : (rows : List AttributeRow) → AreOfKind 3 (map placed_attribute rows)
attributes_kind [] = tt
attributes_kind (r ∷ rows) = (refl, attributes_kind rows)

groups_rise : (floor top : ℕ) (rows : List GroupRow) → AscendFrom floor top (map (λ (r : GroupRow). r.id) rows) → Rising floor top (map placed_group rows)
groups_rise floor top [] h = h
groups_rise floor top (r ∷ rows) h = (h.0, groups_rise r.id top rows h.1)

definitions_rise : (floor top : ℕ) (rows : List DefinitionRow) → AscendFrom floor top (map (λ (r : DefinitionRow). r.id) rows) → Rising floor top (map placed_definition rows)
definitions_rise floor top [] h = h
definitions_rise floor top (r ∷ rows) h = (h.0, definitions_rise r.id top rows h.1)

attributes_rise : (floor top : ℕ) (rows : List AttributeRow) → AscendFrom floor top (map (λ (r : AttributeRow). r.id) rows) → Rising floor top (map placed_attribute rows)
attributes_rise floor top [] h = h
attributes_rise floor top (r ∷ rows) h = (h.0, attributes_rise r.id top rows h.1)

folders_rise : (floor top : ℕ) (rows : List FolderRow) → AscendFrom floor top (map (λ (r : FolderRow). r.id) rows) → AllByRecursion (λ (r : FolderRow). is_some r.parent ≡ true) rows → Rising floor top (placed_folders rows)
folders_rise floor top [] h all = h
folders_rise floor top (r ∷ rows) h all = go r.parent refl all.0 (folders_rise r.id top rows h.1 all.1)
  where
    go : (q : Option ℕ) → r.parent ≡ q → is_some q ≡ true → Rising r.id top (placed_folders rows) → Rising floor top (placed_folders (r ∷ rows))
    go None e some more = cc
    go (Some p) e some more = rw e (h.0, more)

all_folders_rise : (top : ℕ) (rows : List FolderRow) → BeginsAtRoot top rows → Rising 0 top (placed_folders rows)
all_folders_rise top [] b = absurd b
all_folders_rise top (r ∷ rows) b =
    let none : r.parent ≡ None = ap (λ (row : FolderRow). row.parent) b.0 in
    rw none (folders_rise 0 top rows b.1 b.2)

-- ---- what is found in a folder

found_part : (d : ℕ) (e : List ℕ) (xs ys : List Placed) (o : Object) → found_in d e (xs ++ ys) ≡ Some o → (found_in d e xs ≡ Some o) ⊎ (found_in d e ys ≡ Some o)
found_part d e [] ys o h = inr h
found_part d e (x ∷ xs) ys o h = elim (cases_Bool (is_there d e x)) [
  | inl t ↦ inl (rw t (rw t at h))
  | inr t ↦ rw t (found_part d e xs ys o (rw t at h))
]

not_of : (k l m : ℕ) → k ≡ l → (l == m) ≡ false → k ≡ m → ⊥
not_of k l m a b c = let same : l ≡ m = sym a ∙ c in let t : (l == m) ≡ true = eq-eqb l m same in let k : true ≡ false = sym t ∙ b in cc

child_home : (d : ℕ) (e : List ℕ) (f : Lists) (o : Object) → IsSound f → child d e f ≡ Some o → home_in o (placed f) ≡ Some d
unfolding placed
child_home d e f o sound h = home_placed o f ∙ elim (found_part d e (placed_folders f.folders ++ map placed_group f.groups ++ map placed_definition f.definitions) (map placed_attribute f.attributes) o h) [
  | inl r ↦ elim (found_part d e (placed_folders f.folders ++ map placed_group f.groups) (map placed_definition f.definitions) o r) [
    | inl s ↦ elim (found_part d e (placed_folders f.folders) (map placed_group f.groups) o s) [
      | inl a ↦ rw (found_home 0 f.made.folders d e (placed_folders f.folders) o (all_folders_rise f.made.folders f.folders sound.folders) a) refl
      | inr a ↦
          let kind : kind_of o ≡ 1 = found_kind 1 d e (map placed_group f.groups) o (groups_kind f.groups) a in
          rw (
            no_kind 0 (placed_folders f.folders) o (folders_kind f.folders) (not_of (kind_of o) 1 0 kind refl),
            found_home 0 f.made.groups d e (map placed_group f.groups) o (groups_rise 0 f.made.groups f.groups sound.groups) a,
          ) refl
    ]
    | inr a ↦
        let kind : kind_of o ≡ 2 = found_kind 2 d e (map placed_definition f.definitions) o (definitions_kind f.definitions) a in
        rw (
          no_kind 0 (placed_folders f.folders) o (folders_kind f.folders) (not_of (kind_of o) 2 0 kind refl),
          no_kind 1 (map placed_group f.groups) o (groups_kind f.groups) (not_of (kind_of o) 2 1 kind refl),
          found_home 0 f.made.definitions d e (map placed_definition f.definitions) o (definitions_rise 0 f.made.definitions f.definitions sound.definitions) a,
        ) refl
  ]
  | inr a ↦
      let kind : kind_of o ≡ 3 = found_kind 3 d e (map placed_attribute f.attributes) o (attributes_kind f.attributes) a in
      rw (
        no_kind 0 (placed_folders f.folders) o (folders_kind f.folders) (not_of (kind_of o) 3 0 kind refl),
        no_kind 1 (map placed_group f.groups) o (groups_kind f.groups) (not_of (kind_of o) 3 1 kind refl),
        no_kind 2 (map placed_definition f.definitions) o (definitions_kind f.definitions) (not_of (kind_of o) 3 2 kind refl),
        found_home 0 f.made.attributes d e (map placed_attribute f.attributes) o (attributes_rise 0 f.made.attributes f.attributes sound.attributes) a,
      ) refl
]

-- a child of a folder is in its scope
pub child_in : (d : ℕ) (e : List ℕ) (f : Lists) (o : Object) → IsSound f → child d e f ≡ Some o → in_scope d One o f ≡ true
child_in d e f o sound h = by_home d One o f ∙ (ap (λ q. home_in_scope d One q f.folders) (child_home d e f o sound h) ∙ eq-eqb d d refl)

-- ---- the folder above a folder

parent_rest : (x d : ℕ) (rows : List FolderRow) → AllByRecursion (λ (r : FolderRow). is_some r.parent ≡ true) rows → folder_home (Folder x) rows ≡ Some d → parent_of x rows ≡ Some d
parent_rest x d [] all h = cc
parent_rest x d (r ∷ rows) all h = elim (cases_Bool (r.id == x)) [
  | inl y ↦ rw y (go r.parent refl all.0 (rw y at h))
  | inr y ↦ rw y (parent_rest x d rows all.1 (rw y at h))
]
  where
    go : (q : Option ℕ) → r.parent ≡ q → is_some q ≡ true → or_home q (folder_home (Folder x) rows) ≡ Some d → q ≡ Some d
    go None e some k = cc
    go (Some p) e some k = k

parent_all : (top x d : ℕ) (rows : List FolderRow) → BeginsAtRoot top rows → folder_home (Folder x) rows ≡ Some d → parent_of x rows ≡ Some d
parent_all top x d [] b h = absurd b
parent_all top x d (r ∷ rows) b h =
    let none : r.parent ≡ None = ap (λ (row : FolderRow). row.parent) b.0 in
    let first : r.id ≡ 0 = ap (λ (row : FolderRow). row.id) b.0 in
    elim (cases_Bool (r.id == x)) [
      | inl y ↦
          let root : x ≡ 0 = sym (eqb-true r.id x y) ∙ first in
          let rest : folder_home (Folder x) rows ≡ Some d = rw (y, none) at h in
          let nowhere : folder_home (Folder x) rows ≡ None = sym (by_folders (Folder x) rows) ∙ risen 0 top (placed_folders rows) (Folder x) (folders_rise 0 top rows b.1 b.2) (omega (arith, root)) in
          absurd (none_some (folder_home (Folder x) rows) d nowhere rest)
      | inr y ↦ rw y (parent_rest x d rows b.2 (rw y at h))
    ]

home_of_scope : (d : ℕ) (q : Option ℕ) (fs : List FolderRow) → home_in_scope d One q fs ≡ true → q ≡ Some d
home_of_scope d None fs h = cc
home_of_scope d (Some p) fs h = ap Some (eqb-true p d h)

without : (a b c d : Option ℕ) (n : ℕ) → b ≡ None → c ≡ None → d ≡ None → or_home (or_home (or_home a b) c) d ≡ Some n → a ≡ Some n
without None b c d n x y z h = cc
without (Some p) b c d n x y z h = h

-- the folder in which a folder stands is the one above it
pub up_from : (d x : ℕ) (f : Lists) → IsSound f → in_scope d One (Folder x) f ≡ true → parent_of x f.folders ≡ Some d
up_from d x f sound h =
    let home : home_in (Folder x) (placed f) ≡ Some d = home_of_scope d (home_in (Folder x) (placed f)) f.folders (sym (by_home d One (Folder x) f) ∙ h) in
    let among : home_in (Folder x) (placed_folders f.folders) ≡ Some d =
    without (home_in (Folder x) (placed_folders f.folders)) (home_in (Folder x) (map placed_group f.groups)) (home_in (Folder x) (map placed_definition f.definitions)) (home_in (Folder x) (map placed_attribute f.attributes)) d
    (no_kind 1 (map placed_group f.groups) (Folder x) (groups_kind f.groups) (not_of 0 0 1 refl refl))
    (no_kind 2 (map placed_definition f.definitions) (Folder x) (definitions_kind f.definitions) (not_of 0 0 2 refl refl))
    (no_kind 3 (map placed_attribute f.attributes) (Folder x) (attributes_kind f.attributes) (not_of 0 0 3 refl refl))
    (sym (home_placed (Folder x) f) ∙ home) in
    parent_all f.made.folders x d f.folders sound.folders (sym (by_folders (Folder x) f.folders) ∙ among)

-- ---- from a folder down

lies_deeper : (n h x d : ℕ) (fs : List FolderRow) → parent_of x fs ≡ Some d → lies_in n h x fs ≡ true → lies_in (suc n) h d fs ≡ true
unfolding lies_in
lies_deeper zero h x d fs up k = up_one zero h d d fs (rw (eqb-true h x k) up) (lies_itself zero d fs)
lies_deeper (suc n) h x d fs up k = elim (or_cases (h == x) (elim (parent_of h fs) [ None ↦ false | Some p ↦ lies_in n p x fs ]) k) [
  | inl y ↦ up_one (suc n) h d d fs (rw (eqb-true h x y) up) (lies_itself (suc n) d fs)
  | inr r ↦ go (parent_of h fs) refl r (λ p j. lies_deeper n p x d fs up j)
]
  where
    go : (q : Option ℕ) → parent_of h fs ≡ q → (elim q [ None ↦ false | Some p ↦ lies_in n p x fs ]) ≡ true → ((p : ℕ) → lies_in n p x fs ≡ true → lies_in (suc n) p d fs ≡ true) → lies_in (suc (suc n)) h d fs ≡ true
    go None u j more = cc
    go (Some p) u j more = up_one (suc n) h p d fs u (more p j)

place_deeper : (n x d : ℕ) (q : Option Placed) (f : Lists) → parent_of x f.folders ≡ Some d → place_below n x q f ≡ true → place_below (suc n) d q f ≡ true
place_deeper zero x d q f up h = cc
place_deeper (suc n) x d None f up h = cc
place_deeper (suc n) x d (Some p) f up h = lies_deeper n p.folder x d f.folders up h

place_here : (n d : ℕ) (q : Option Placed) (f : Lists) → place_in_scope d One q f ≡ true → place_below (suc n) d q f ≡ true
place_here n d None f h = cc
place_here n d (Some p) f h = rw (eqb-true p.folder d h) (lies_itself n d f.folders)

-- what stands in a folder stands below it
pub here_below : (levels n d : ℕ) → levels ≡ suc n → (f : Lists) (o : Object) → in_scope d One o f ≡ true → place_below levels d (place_of o (placed f)) f ≡ true
here_below levels n d many f o h = rw many (place_here n d (place_of o (placed f)) f h)

-- and so does what stands below a folder in it
pub deeper_below : (levels n d x : ℕ) → levels ≡ suc n → (f : Lists) (o : Object) → IsSound f → in_scope d One (Folder x) f ≡ true → place_below n x (place_of o (placed f)) f ≡ true
    → place_below levels d (place_of o (placed f)) f ≡ true
deeper_below levels n d x many f o sound h k = rw many (place_deeper n x d (place_of o (placed f)) f (up_from d x f sound h) k)

-- ---- what is added

pub adds_none : (test : Object → Bool) (xs : List Object) → AddsOnly test xs xs
adds_none test xs o h = rw h refl

-- first some, then some
pub adds_then : (test : Object → Bool) (a b c : List Object) → AddsOnly test a b → AddsOnly test b c → AddsOnly test a c
adds_then test a b c first then o h = elim (or_cases (is_listed o b) (test o) (then o h)) [
  | inl y ↦ first o y
  | inr y ↦ rw y (or_true (is_listed o a))
]

-- those that pass one test pass another
pub adds_wider : (s t : Object → Bool) (a b : List Object) → ((o : Object) → s o ≡ true → t o ≡ true) → AddsOnly s a b → AddsOnly t a b
adds_wider s t a b wider only o h = elim (or_cases (is_listed o a) (s o) (only o h)) [
  | inl y ↦ rw y refl
  | inr y ↦ rw (wider o y) (or_true (is_listed o a))
]

-- one more
pub adds_one : (test : Object → Bool) (a b : List Object) (x : Object) → test x ≡ true → AddsOnly test a b → AddsOnly test a (b ++ x ∷ [])
adds_one test a b x passes only o h = elim (or_cases (is_listed o b) (same_object x o) (sym (listed_more o x b) ∙ h)) [
  | inl y ↦ only o y
  | inr y ↦ let same : test o ≡ true = ap test (sym (one_object x o y)) ∙ passes in rw same (or_true (is_listed o a))
]

-- one more that passes
pub passes_one : (test : Object → Bool) (xs : List Object) (x : Object) → test x ≡ true → ((o : Object) → is_listed o xs ≡ true → test o ≡ true) → (o : Object) → is_listed o (xs ++ x ∷ []) ≡ true → test o ≡ true
passes_one test xs x passes all o h = elim (or_cases (is_listed o xs) (same_object x o) (sym (listed_more o x xs) ∙ h)) [
  | inl y ↦ all o y
  | inr y ↦ ap test (sym (one_object x o y)) ∙ passes
]

-- what is listed among the first is listed
pub listed_first : (n : ℕ) (xs : List Object) (o : Object) → is_listed o (take n xs) ≡ true → is_listed o xs ≡ true
listed_first n xs o h = ap (λ (ys : List Object). is_listed o ys) (sym (take-append-drop n xs)) ∙ (list_any-append (λ (other : Object). same_object other o) (take n xs) (drop n xs) ∙ rw h refl)

-- ---- one object after another

pub listed_at : (xs : List Object) (i : ℕ) (x : Object) → i < length xs → x ≡ get_or xs i x → is_listed x xs ≡ true
listed_at xs i x h e =
    let more : take (i + 1) xs ≡ take i xs ++ x ∷ [] = take_more xs i x h ∙ ap (λ (y : Object). take i xs ++ y ∷ []) (sym e) in
    listed_first (i + 1) xs x (ap (λ (ys : List Object). is_listed x ys) more ∙ now_listed x x (take i xs) (itself x x refl))

pub here_more : (front found after : List Object) (x : Object) → ((o : Object) → is_listed o front ≡ true → is_listed o found ≡ true)
    → ((o : Object) → is_listed o (found ++ x ∷ []) ≡ true → is_listed o after ≡ true) → (o : Object) → is_listed o (front ++ x ∷ []) ≡ true → is_listed o after ≡ true
here_more front found after x here keeps o h = elim (or_cases (is_listed o front) (same_object x o) (sym (listed_more o x front) ∙ h)) [
  | inl y ↦ keeps o (stays_listed o x found (here o y))
  | inr y ↦ keeps o (now_listed o x found y)
]

pub deeper_more : (front found after : List Object) (x : Object) (below : ℕ → Object → Bool) → ((y : ℕ) (o : Object) → is_listed (Folder y) front ≡ true → below y o ≡ true → is_listed o found ≡ true)
    → ((o : Object) → is_listed o (found ++ x ∷ []) ≡ true → is_listed o after ≡ true) → ((y : ℕ) (o : Object) → x ≡ Folder y → below y o ≡ true → is_listed o after ≡ true)
    → (y : ℕ) (o : Object) → is_listed (Folder y) (front ++ x ∷ []) ≡ true → below y o ≡ true → is_listed o after ≡ true
deeper_more front found after x below deeper keeps new y o h k = elim (or_cases (is_listed (Folder y) front) (same_object x (Folder y)) (sym (listed_more (Folder y) x front) ∙ h)) [
  | inl z ↦ keeps o (stays_listed o x found (deeper y o z k))
  | inr z ↦ new y o (one_object x (Folder y) z) k
]

pub is_folder : (x : Object) (id : ℕ) → as_folder (Some x) ≡ Some id → x ≡ Folder id
is_folder (Folder a) id h = ap Folder (one_number a id h)
is_folder (Group a) id h = cc
is_folder (Def a) id h = cc
is_folder (Attr a) id h = cc
is_folder (Subject a) id h = cc

pub folder_number : (x : Object) (id y : ℕ) → as_folder (Some x) ≡ Some id → x ≡ Folder y → id ≡ y
folder_number x id y h e = one_number id y (sym h ∙ ap (λ (o : Object). as_folder (Some o)) e)

pub no_folder : (x : Object) (y : ℕ) → as_folder (Some x) ≡ None → x ≡ Folder y → ⊥
no_folder x y h e = none_some (as_folder (Some x)) y h (ap (λ (o : Object). as_folder (Some o)) e)
