-- What stands in a folder and below it, found from the folder down.
use Rattle.std.proofs.Common.{◌≡◌, ◌==◌, ◌||◌, ◌++◌, ◌⊎◌, ℕ, zero, suc, List, [], ◌∷◌, Bool, true, false, map, Option, Some, None, bytes_eq, codes, refl, sym, ◌∙◌, ap, inl, inr}
use Rattle.std.specs.List.{list_any}
use Rattle.std.proofs.lemmas.Bool.{cases_Bool, or_cases, and_parts, eqb-true, eq-eqb}
use Rattle.std.proofs.lemmas.List.Folds.{list_any-append}
use Rattle.std.proofs.lemmas.Slice.Eq.{bytes_eq-Decides}
use Rattle.reg_terms.specs.Kinds.{same_object}
use Rattle.reg_terms.specs.declared.kinds.Object.{Object}
use Rattle.reg_terms.specs.declared.kinds.Object.TheVariants.{Folder, Group, Def, Attr, Subject}
use Rattle.reg_terms.specs.declared.kinds.Scope.TheVariants.{One}
use Rattle.reg_terms.specs.declared.rows.FolderRow.{FolderRow}
use Rattle.reg_facts.specs.declared.child_names.ChildNames.{ChildNames}
use Rattle.reg_facts.specs.Children.{extensions_in, by_bytes, is_among, names_in, child_names}
use Rattle.reg_facts.specs.Lists.{Lists}
use Rattle.reg_facts.specs.Naming.{Placed, placed, placed_folders, placed_group, placed_definition, placed_attribute, place_of, found_in, is_there, child, parent_of, lies_in, name_in}
use Rattle.reg_facts.specs.Sound.{IsSound, AreApart}
use Rattle.reg_names.specs.Scopes.{in_scope, place_in_scope}
use Rattle.reg_priv.specs.Touched.{is_listed, place_below}
use Rattle.reg_priv.proofs.Homes.{home_in, home_placed, by_folders, folder_home}
use Rattle.reg_priv.proofs.Untouched.{one_object, home_in_scope, by_home}

pub or_true : (b : Bool) → (b || true) ≡ true
or_true true = refl
or_true false = refl

-- ---- what stands directly in a folder

there : (p : Placed) → is_there p.folder p.extension p ≡ true
there p = rw (eq-eqb p.folder p.folder refl, (bytes_eq-Decides p.extension p.extension).1 refl) refl

one_place : (p q : Placed) → Some p ≡ Some q → p ≡ q
one_place p q e = cc

child_found : (o : Object) (ps : List Placed) (p : Placed) → AreApart ps → place_of o ps ≡ Some p → found_in p.folder p.extension ps ≡ Some o
child_found o [] p apart h = cc
child_found o (q ∷ qs) p apart h = elim (cases_Bool (same_object q.object o)) [
  | inl y ↦
      let same : q ≡ p = one_place q p (rw y at h) in
      let itself : is_there p.folder p.extension q ≡ true = rw same (there p) in
      rw itself (ap Some (one_object q.object o y))
  | inr y ↦
      let rest : found_in p.folder p.extension qs ≡ Some o = child_found o qs p apart.1 (rw y at h) in
      elim (cases_Bool (is_there p.folder p.extension q)) [
        | inl t ↦
            let at = and_parts (q.folder == p.folder) (bytes_eq q.extension p.extension) t in
            let none : found_in p.folder p.extension qs ≡ None = rw (eqb-true q.folder p.folder at.0, (bytes_eq-Decides q.extension p.extension).0 at.1) at apart.0 in
            let k : None ≡ Some o = sym none ∙ rest in cc
        | inr t ↦ rw t rest
      ]
]

listed : (o : Object) (ps : List Placed) (p : Placed) (d : ℕ) → place_of o ps ≡ Some p → (p.folder == d) ≡ true → is_among p.extension (extensions_in d ps) ≡ true
listed o [] p d h e = cc
listed o (q ∷ qs) p d h e = elim (cases_Bool (same_object q.object o)) [
  | inl y ↦
      let same : q ≡ p = one_place q p (rw y at h) in
      let at : (q.folder == d) ≡ true = rw same e in
      let here : bytes_eq q.extension p.extension ≡ true = (bytes_eq-Decides q.extension p.extension).1 (ap (λ (x : Placed). x.extension) same) in
      rw (at, here) refl
  | inr y ↦
      let rest : is_among p.extension (extensions_in d qs) ≡ true = listed o qs p d (rw y at h) e in
      elim (cases_Bool (q.folder == d)) [
        | inl z ↦ rw (z, rest) (or_true (bytes_eq q.extension p.extension))
        | inr z ↦ rw (z, rest) refl
      ]
]

-- the name in the root is the extension
own_name : (xs : List (List ℕ)) → map (name_in (codes ":")) xs ≡ xs
own_name [] = refl
own_name (x ∷ xs) = ap (λ more. x ∷ more) (own_name xs)

named : (d : ℕ) (ps : List Placed) (o : Object) (p : Placed) → ((text : List ℕ) (texts : List (List ℕ)) → is_among text (by_bytes texts) ≡ is_among text texts)
    → place_of o ps ≡ Some p → (p.folder == d) ≡ true → is_among p.extension (names_in d (codes ":") ps) ≡ true
named d ps o p same h e = ap (λ ts. is_among p.extension ts) (own_name (by_bytes (extensions_in d ps))) ∙ (same p.extension (extensions_in d ps) ∙ listed o ps p d h e)

in_part : (o : Object) (xs ys : List Placed) (p : Placed) → place_of o (xs ++ ys) ≡ Some p → (place_of o xs ≡ Some p) ⊎ (place_of o ys ≡ Some p)
in_part o [] ys p h = inr h
in_part o (x ∷ xs) ys p h = elim (cases_Bool (same_object x.object o)) [
  | inl y ↦ inl (rw y (rw y at h))
  | inr y ↦ rw y (in_part o xs ys p (rw y at h))
]

in_parts : (o : Object) (f : Lists) (p : Placed) → place_of o (placed f) ≡ Some p
    → (place_of o (placed_folders f.folders) ≡ Some p) ⊎ ((place_of o (map placed_group f.groups) ≡ Some p) ⊎ ((place_of o (map placed_definition f.definitions) ≡ Some p) ⊎ (place_of o (map placed_attribute f.attributes) ≡ Some p)))
unfolding placed
in_parts o f p h = elim (in_part o (placed_folders f.folders ++ map placed_group f.groups ++ map placed_definition f.definitions) (map placed_attribute f.attributes) p h) [
  | inl r ↦ elim (in_part o (placed_folders f.folders ++ map placed_group f.groups) (map placed_definition f.definitions) p r) [
    | inl s ↦ elim (in_part o (placed_folders f.folders) (map placed_group f.groups) p s) [
      | inl a ↦ inl a
      | inr a ↦ inr (inl a)
    ]
    | inr a ↦ inr (inr (inl a))
  ]
  | inr a ↦ inr (inr (inr a))
]

module _ (d : ℕ) (f : Lists) (home : List ℕ) (names : ChildNames) (found : List Object) (sound : IsSound f) (home_is : home ≡ codes ":") (names_are : names ≡ child_names d home f)
    (same : (text : List ℕ) (texts : List (List ℕ)) → is_among text (by_bytes texts) ≡ is_among text texts)
    (folders : (e : List ℕ) (o : Object) → list_any (λ t. bytes_eq t e) names.folders ≡ true → child d e f ≡ Some o → is_listed o found ≡ true)
    (groups : (e : List ℕ) (o : Object) → list_any (λ t. bytes_eq t e) names.groups ≡ true → child d e f ≡ Some o → is_listed o found ≡ true)
    (definitions : (e : List ℕ) (o : Object) → list_any (λ t. bytes_eq t e) names.definitions ≡ true → child d e f ≡ Some o → is_listed o found ≡ true)
    (attributes : (e : List ℕ) (o : Object) → list_any (λ t. bytes_eq t e) names.attributes ≡ true → child d e f ≡ Some o → is_listed o found ≡ true) where
  all_named : names ≡ child_names d (codes ":") f
  all_named = names_are ∙ ap (λ h. child_names d h f) home_is

  pub directly : (o : Object) → in_scope d One o f ≡ true → is_listed o found ≡ true
  directly o h = go (place_of o (placed f)) refl h
    where
      go : (q : Option Placed) → place_of o (placed f) ≡ q → place_in_scope d One q f ≡ true → is_listed o found ≡ true
      go None e k = cc
      go (Some p) e k =
          let there_it_is : found_in p.folder p.extension (placed f) ≡ Some o = child_found o (placed f) p sound.apart e in
          let it : child d p.extension f ≡ Some o = rw (eqb-true p.folder d k) at there_it_is in
          elim (in_parts o f p e) [
            | inl a ↦ folders p.extension o (ap (λ (n : ChildNames). is_among p.extension n.folders) all_named ∙ named d (placed_folders f.folders) o p same a k) it
            | inr r ↦ elim r [
              | inl b ↦ groups p.extension o (ap (λ (n : ChildNames). is_among p.extension n.groups) all_named ∙ named d (map placed_group f.groups) o p same b k) it
              | inr s ↦ elim s [
                | inl b ↦ definitions p.extension o (ap (λ (n : ChildNames). is_among p.extension n.definitions) all_named ∙ named d (map placed_definition f.definitions) o p same b k) it
                | inr b ↦ attributes p.extension o (ap (λ (n : ChildNames). is_among p.extension n.attributes) all_named ∙ named d (map placed_attribute f.attributes) o p same b k) it
              ]
            ]
          ]

-- ---- from a folder down

pub lies_itself : (n d : ℕ) (fs : List FolderRow) → lies_in n d d fs ≡ true
unfolding lies_in
lies_itself zero d fs = eq-eqb d d refl
lies_itself (suc n) d fs = rw (eq-eqb d d refl) refl

pub up_one : (n h p d : ℕ) (fs : List FolderRow) → parent_of h fs ≡ Some p → lies_in n p d fs ≡ true → lies_in (suc n) h d fs ≡ true
unfolding lies_in
up_one n h p d fs e k = rw (e, k) (or_true (h == d))

-- a folder that lies below another lies in one that stands in it
pub record Way (n h d : ℕ) (fs : List FolderRow) : Type 0 where
  pub levels : ℕ
  pub fewer : n ≡ suc levels
  pub folder : ℕ
  pub up : parent_of folder fs ≡ Some d
  pub lies : lies_in levels h folder fs ≡ true

lies_more : (n m h p d : ℕ) (fs : List FolderRow) → n ≡ suc m → parent_of h fs ≡ Some p → lies_in m p d fs ≡ true → lies_in n h d fs ≡ true
lies_more n m h p d fs e u k = rw e (up_one m h p d fs u k)

one_way : (n h p d : ℕ) (fs : List FolderRow) → parent_of h fs ≡ Some p → ((p == d) ≡ true) ⊎ Way n p d fs → Way (suc n) h d fs
one_way n h p d fs e (inl z) = record { levels = n; fewer = refl; folder = h; up = e ∙ ap Some (eqb-true p d z); lies = lies_itself n h fs }
one_way n h p d fs e (inr w) = record { levels = n; fewer = refl; folder = w.folder; up = w.up; lies = lies_more n w.levels h p w.folder fs w.fewer e w.lies }

pub way : (n h d : ℕ) (fs : List FolderRow) → lies_in n h d fs ≡ true → ((h == d) ≡ true) ⊎ Way n h d fs
unfolding lies_in
way zero h d fs e = inl e
way (suc n) h d fs e = elim (or_cases (h == d) (elim (parent_of h fs) [ None ↦ false | Some p ↦ lies_in n p d fs ]) e) [
  | inl y ↦ inl y
  | inr r ↦ inr (go (parent_of h fs) refl r (λ p k. way n p d fs k))
]
  where
    go : (q : Option ℕ) → parent_of h fs ≡ q → (elim q [ None ↦ false | Some p ↦ lies_in n p d fs ]) ≡ true → ((p : ℕ) → lies_in n p d fs ≡ true → ((p == d) ≡ true) ⊎ Way n p d fs) → Way (suc n) h d fs
    go None u k more = cc
    go (Some p) u k more = one_way n h p d fs u (more p k)

folder_up : (x d : ℕ) (rows : List FolderRow) → parent_of x rows ≡ Some d → folder_home (Folder x) rows ≡ Some d
folder_up x d [] h = cc
folder_up x d (r ∷ rows) h = elim (cases_Bool (r.id == x)) [
  | inl y ↦ let k : r.parent ≡ Some d = rw y at h in rw (y, k) refl
  | inr y ↦ rw y (folder_up x d rows (rw y at h))
]

-- a folder stands in the one above it
pub folder_in : (x d : ℕ) (f : Lists) → parent_of x f.folders ≡ Some d → in_scope d One (Folder x) f ≡ true
folder_in x d f h =
    let home : home_in (Folder x) (placed f) ≡ Some d = home_placed (Folder x) f ∙ rw (by_folders (Folder x) f.folders, folder_up x d f.folders h) refl in
    by_home d One (Folder x) f ∙ (ap (λ q. home_in_scope d One q f.folders) home ∙ eq-eqb d d refl)

lies_so : (n m x : ℕ) (f : Lists) (p : Placed) → n ≡ suc m → lies_in m p.folder x f.folders ≡ true → place_below n x (Some p) f ≡ true
lies_so n m x f p e h = rw e h

-- those in the folder, and those below each folder in it, are all below it
pub all_below : (levels n d : ℕ) → levels ≡ suc n → (f : Lists) (objects found : List Object)
    → ((o : Object) → in_scope d One o f ≡ true → is_listed o objects ≡ true) → ((o : Object) → is_listed o objects ≡ true → is_listed o found ≡ true)
    → ((x : ℕ) (o : Object) → is_listed (Folder x) objects ≡ true → place_below n x (place_of o (placed f)) f ≡ true → is_listed o found ≡ true)
    → (o : Object) → place_below levels d (place_of o (placed f)) f ≡ true → is_listed o found ≡ true
all_below levels n d many f objects found direct here deeper o h = go (place_of o (placed f)) refl (rw many at h)
  where
    go : (q : Option Placed) → place_of o (placed f) ≡ q → place_below (suc n) d q f ≡ true → is_listed o found ≡ true
    go None e k = cc
    go (Some p) e k = elim (way n p.folder d f.folders k) [
      | inl z ↦ here o (direct o (rw e z))
      | inr w ↦ deeper w.folder o (direct (Folder w.folder) (folder_in w.folder d f w.up)) (rw e (lies_so n w.levels w.folder f p w.fewer w.lies))
    ]

-- ---- one more

pub listed_more : (o x : Object) (xs : List Object) → is_listed o (xs ++ x ∷ []) ≡ (is_listed o xs || same_object x o)
listed_more o x xs = list_any-append (λ (other : Object). same_object other o) xs (x ∷ []) ∙ ap (λ b. is_listed o xs || b) (or_none (same_object x o))
  where
    or_none : (b : Bool) → (b || false) ≡ b
    or_none true = refl
    or_none false = refl

pub stays_listed : (o x : Object) (xs : List Object) → is_listed o xs ≡ true → is_listed o (xs ++ x ∷ []) ≡ true
stays_listed o x xs h = listed_more o x xs ∙ rw h refl

pub now_listed : (o x : Object) (xs : List Object) → same_object x o ≡ true → is_listed o (xs ++ x ∷ []) ≡ true
now_listed o x xs h = listed_more o x xs ∙ rw h (or_true (is_listed o xs))

-- ---- names one by one

-- one more object found by its extension
pub name_found : (d : ℕ) (f : Lists) (found : List Object) (x e : List ℕ) (rest : List (List ℕ)) (object o : Object) → child d x f ≡ Some object → child d e f ≡ Some o
    → (is_listed o found ≡ true) ⊎ (list_any (λ t. bytes_eq t e) (x ∷ rest) ≡ true) → (is_listed o (found ++ object ∷ []) ≡ true) ⊎ (list_any (λ t. bytes_eq t e) rest ≡ true)
name_found d f found x e rest object o at it (inl h) = inl (stays_listed o object found h)
name_found d f found x e rest object o at it (inr h) = elim (or_cases (bytes_eq x e) (list_any (λ t. bytes_eq t e) rest) h) [
  | inl y ↦
      let same : Some object ≡ Some o = sym at ∙ (rw ((bytes_eq-Decides x e).0 y) it) in
      let one : object ≡ o = one_of same in
      inl (now_listed o object found (itself object o one))
  | inr y ↦ inr y
]
  where
    one_of : Some object ≡ Some o → object ≡ o
    one_of h = cc

    itself : (a b : Object) → a ≡ b → same_object a b ≡ true
    itself (Folder a) b h = rw (sym h) (eq-eqb a a refl)
    itself (Group a) b h = rw (sym h) (eq-eqb a a refl)
    itself (Def a) b h = rw (sym h) (eq-eqb a a refl)
    itself (Attr a) b h = rw (sym h) (eq-eqb a a refl)
    itself (Subject a) b h = rw (sym h) (eq-eqb a a refl)

-- an extension that no object has
pub name_none : (d : ℕ) (f : Lists) (found : List Object) (x e : List ℕ) (rest : List (List ℕ)) (o : Object) → child d x f ≡ None → child d e f ≡ Some o
    → (is_listed o found ≡ true) ⊎ (list_any (λ t. bytes_eq t e) (x ∷ rest) ≡ true) → (is_listed o found ≡ true) ⊎ (list_any (λ t. bytes_eq t e) rest ≡ true)
name_none d f found x e rest o at it (inl h) = inl h
name_none d f found x e rest o at it (inr h) = elim (or_cases (bytes_eq x e) (list_any (λ t. bytes_eq t e) rest) h) [
  | inl y ↦ let none : None ≡ Some o = sym at ∙ (rw ((bytes_eq-Decides x e).0 y) it) in cc
  | inr y ↦ inr y
]
