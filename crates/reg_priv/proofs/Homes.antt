-- In which folder an object stands, and what lies above it, after rows of folders, groups, definitions and attributes have changed.
use Rattle.std.proofs.Common.{◌≡◌, ◌==◌, ◌||◌, ◌++◌, ℕ, zero, suc, List, [], ◌∷◌, Bool, true, false, not, map, filter, Option, Some, None, option_map, if◌then◌else◌, arith, refl, sym, ◌∙◌, ap, inl, inr}
use Rattle.std.specs.List.{AllByRecursion}
use Rattle.std.proofs.lemmas.Bool.{cases_Bool, eqb-true, or_parts}
use Rattle.std.proofs.lemmas.Bool.Decides.{nat_tests}
use Rattle.reg_terms.specs.Kinds.{same_object}
use Rattle.reg_terms.specs.declared.kinds.Object.{Object}
use Rattle.reg_terms.specs.declared.kinds.Object.TheVariants.{Folder, Group}
use Rattle.reg_terms.specs.declared.rows.FolderRow.{FolderRow}
use Rattle.reg_terms.specs.declared.rows.GroupRow.{GroupRow}
use Rattle.reg_facts.specs.Edits.{folder_renamed, folder_moved, group_renamed, group_moved}
use Rattle.reg_facts.specs.Lists.{Lists}
use Rattle.reg_facts.specs.Naming.{Placed, placed, placed_folders, placed_group, placed_definition, placed_attribute, place_of, parent_of, lies_in}

-- the folder in which an object stands, of these
abbrev pub home_in : Object → List Placed → Option ℕ
home_in o ps = option_map (λ (p : Placed). p.folder) (place_of o ps)

-- the first of two, where there is one
abbrev pub or_home : Option ℕ → Option ℕ → Option ℕ
or_home None b = b
or_home (Some d) b = Some d

home_more : (o : Object) (xs ys : List Placed) → home_in o (xs ++ ys) ≡ or_home (home_in o xs) (home_in o ys)
home_more o [] ys = refl
home_more o (x ∷ xs) ys = elim (cases_Bool (same_object x.object o)) [ inl y ↦ rw y refl | inr y ↦ rw y (home_more o xs ys) ]

pub home_placed : (o : Object) (f : Lists) → home_in o (placed f)
    ≡ or_home (or_home (or_home (home_in o (placed_folders f.folders)) (home_in o (map placed_group f.groups))) (home_in o (map placed_definition f.definitions))) (home_in o (map placed_attribute f.attributes))
unfolding placed
home_placed o f =
    home_more o (placed_folders f.folders ++ map placed_group f.groups ++ map placed_definition f.definitions) (map placed_attribute f.attributes)
    ∙ ap (λ h. or_home h (home_in o (map placed_attribute f.attributes))) (home_more o (placed_folders f.folders ++ map placed_group f.groups) (map placed_definition f.definitions)
    ∙ ap (λ h. or_home h (home_in o (map placed_definition f.definitions))) (home_more o (placed_folders f.folders) (map placed_group f.groups)))

-- where folders, groups, definitions and attributes stand where they stood, so does all
pub same_homes : (o : Object) (f g : Lists) → home_in o (placed_folders g.folders) ≡ home_in o (placed_folders f.folders) → home_in o (map placed_group g.groups) ≡ home_in o (map placed_group f.groups)
    → home_in o (map placed_definition g.definitions) ≡ home_in o (map placed_definition f.definitions) → home_in o (map placed_attribute g.attributes) ≡ home_in o (map placed_attribute f.attributes) → home_in o (placed g) ≡ home_in o (placed f)
same_homes o f g a b c d = home_placed o g ∙ (rw (a, b, c, d) (sym (home_placed o f)))

-- where folders and groups stand where they stood, so does all
pub same_home : (o : Object) (f g : Lists) → home_in o (placed_folders g.folders) ≡ home_in o (placed_folders f.folders) → home_in o (map placed_group g.groups) ≡ home_in o (map placed_group f.groups)
    → g.definitions ≡ f.definitions → g.attributes ≡ f.attributes → home_in o (placed g) ≡ home_in o (placed f)
same_home o f g a b c d = same_homes o f g a b (ap (λ rows. home_in o (map placed_definition rows)) c) (ap (λ rows. home_in o (map placed_attribute rows)) d)

-- ---- folders

-- where the folder of a row stands, if it is the object
abbrev pub folder_at : Object → FolderRow → Option ℕ
folder_at o row = if same_object (Folder row.id) o then row.parent else None

abbrev pub folder_home : Object → List FolderRow → Option ℕ
folder_home o [] = None
folder_home o (row ∷ rows) = or_home (folder_at o row) (folder_home o rows)

pub by_folders : (o : Object) (rows : List FolderRow) → home_in o (placed_folders rows) ≡ folder_home o rows
by_folders o [] = refl
by_folders o (row ∷ rows) = go row.parent refl (by_folders o rows)
  where
    go : (q : Option ℕ) → row.parent ≡ q → home_in o (placed_folders rows) ≡ folder_home o rows → home_in o (placed_folders (row ∷ rows)) ≡ folder_home o (row ∷ rows)
    go None e rest = elim (cases_Bool (same_object (Folder row.id) o)) [ inl y ↦ rw (e, y) rest | inr y ↦ rw (e, y) rest ]
    go (Some p) e rest = elim (cases_Bool (same_object (Folder row.id) o)) [ inl y ↦ rw (e, y) refl | inr y ↦ rw (e, y) rest ]

pub folder_made : (o : Object) (row : FolderRow) (rows : List FolderRow) → same_object (Folder row.id) o ≡ false → folder_home o (rows ++ row ∷ []) ≡ folder_home o rows
folder_made o row [] h = rw h refl
folder_made o row (r ∷ rows) h = ap (or_home (folder_at o r)) (folder_made o row rows h)

pub folder_named : (o : Object) (id : ℕ) (e : List ℕ) (rows : List FolderRow) → folder_home o (map (folder_renamed id e) rows) ≡ folder_home o rows
folder_named o id e [] = refl
folder_named o id e (r ∷ rows) = elim (cases_Bool (r.id == id)) [
  | inl y ↦ rw y (ap (or_home (folder_at o r)) (folder_named o id e rows))
  | inr y ↦ rw y (ap (or_home (folder_at o r)) (folder_named o id e rows))
]

pub folder_put : (o : Object) (id to : ℕ) (rows : List FolderRow) → same_object (Folder id) o ≡ false → folder_home o (map (folder_moved id to) rows) ≡ folder_home o rows
folder_put o id to [] h = refl
folder_put o id to (r ∷ rows) h = elim (cases_Bool (r.id == id)) [
  | inl y ↦
      let same : r.id ≡ id = eqb-true r.id id y in
      let other : same_object (Folder r.id) o ≡ false = rw same h in
      rw (y, other) (folder_put o id to rows h)
  | inr y ↦ rw y (ap (or_home (folder_at o r)) (folder_put o id to rows h))
]

pub folder_taken : (o : Object) (id : ℕ) (rows : List FolderRow) → same_object (Folder id) o ≡ false → folder_home o (filter (λ (row : FolderRow). not (row.id == id)) rows) ≡ folder_home o rows
folder_taken o id [] h = refl
folder_taken o id (r ∷ rows) h = elim (cases_Bool (r.id == id)) [
  | inl y ↦
      let same : r.id ≡ id = eqb-true r.id id y in
      let other : same_object (Folder r.id) o ≡ false = rw same h in
      rw (y, other) (folder_taken o id rows h)
  | inr y ↦ rw y (ap (or_home (folder_at o r)) (folder_taken o id rows h))
]

-- ---- groups

abbrev pub group_at : Object → GroupRow → Option ℕ
group_at o row = if same_object (Group row.id) o then Some row.folder else None

abbrev pub group_home : Object → List GroupRow → Option ℕ
group_home o [] = None
group_home o (row ∷ rows) = or_home (group_at o row) (group_home o rows)

pub by_groups : (o : Object) (rows : List GroupRow) → home_in o (map placed_group rows) ≡ group_home o rows
by_groups o [] = refl
by_groups o (row ∷ rows) = elim (cases_Bool (same_object (Group row.id) o)) [ inl y ↦ rw y refl | inr y ↦ rw y (by_groups o rows) ]

pub group_made : (o : Object) (row : GroupRow) (rows : List GroupRow) → same_object (Group row.id) o ≡ false → group_home o (rows ++ row ∷ []) ≡ group_home o rows
group_made o row [] h = rw h refl
group_made o row (r ∷ rows) h = ap (or_home (group_at o r)) (group_made o row rows h)

pub group_named : (o : Object) (id : ℕ) (e : List ℕ) (rows : List GroupRow) → group_home o (map (group_renamed id e) rows) ≡ group_home o rows
group_named o id e [] = refl
group_named o id e (r ∷ rows) = elim (cases_Bool (r.id == id)) [
  | inl y ↦ rw y (ap (or_home (group_at o r)) (group_named o id e rows))
  | inr y ↦ rw y (ap (or_home (group_at o r)) (group_named o id e rows))
]

pub group_put : (o : Object) (id to : ℕ) (rows : List GroupRow) → same_object (Group id) o ≡ false → group_home o (map (group_moved id to) rows) ≡ group_home o rows
group_put o id to [] h = refl
group_put o id to (r ∷ rows) h = elim (cases_Bool (r.id == id)) [
  | inl y ↦
      let same : r.id ≡ id = eqb-true r.id id y in
      let other : same_object (Group r.id) o ≡ false = rw same h in
      rw (y, other) (group_put o id to rows h)
  | inr y ↦ rw y (ap (or_home (group_at o r)) (group_put o id to rows h))
]

pub group_taken : (o : Object) (id : ℕ) (rows : List GroupRow) → same_object (Group id) o ≡ false → group_home o (filter (λ (row : GroupRow). not (row.id == id)) rows) ≡ group_home o rows
group_taken o id [] h = refl
group_taken o id (r ∷ rows) h = elim (cases_Bool (r.id == id)) [
  | inl y ↦
      let same : r.id ≡ id = eqb-true r.id id y in
      let other : same_object (Group r.id) o ≡ false = rw same h in
      rw (y, other) (group_taken o id rows h)
  | inr y ↦ rw y (ap (or_home (group_at o r)) (group_taken o id rows h))
]

-- ---- definitions and attributes

-- one more row, which isn't the object's
pub home_pushed : {R : Type 0} (make : R → Placed) (o : Object) (row : R) (rows : List R) → same_object (make row).object o ≡ false → home_in o (map make (rows ++ row ∷ [])) ≡ home_in o (map make rows)
home_pushed make o row [] h = rw h refl
home_pushed make o row (r ∷ rows) h = elim (cases_Bool (same_object (make r).object o)) [ inl y ↦ rw y refl | inr y ↦ rw y (home_pushed make o row rows h) ]

-- some rows fewer, none of which is the object's
pub home_fewer : {R : Type 0} (make : R → Placed) (test : R → Bool) (o : Object) (rows : List R) → ((r : R) → test r ≡ true → same_object (make r).object o ≡ false) → home_in o (map make (filter (λ r. not (test r)) rows)) ≡ home_in o (map make rows)
home_fewer make test o [] h = refl
home_fewer make test o (r ∷ rows) h = elim (cases_Bool (test r)) [
  | inl y ↦ rw (y, h r y) (home_fewer make test o rows h)
  | inr n ↦ rw n (elim (cases_Bool (same_object (make r).object o)) [ inl y ↦ rw y refl | inr y ↦ rw y (home_fewer make test o rows h) ])
]

-- ---- the folder above a folder

pub parent_made : (x : ℕ) (row : FolderRow) (rows : List FolderRow) → (x == row.id) ≡ false → parent_of x (rows ++ row ∷ []) ≡ parent_of x rows
parent_made x row [] h = let other : (row.id == x) ≡ false = turned_false x row.id h in rw other refl
  where
    turned_false : (a b : ℕ) → (a == b) ≡ false → (b == a) ≡ false
    turned_false a b h = grind (arith, nat_tests, h)
parent_made x row (r ∷ rows) h = elim (cases_Bool (r.id == x)) [ inl y ↦ rw y refl | inr y ↦ rw y (parent_made x row rows h) ]

pub parent_named : (x id : ℕ) (e : List ℕ) (rows : List FolderRow) → parent_of x (map (folder_renamed id e) rows) ≡ parent_of x rows
parent_named x id e [] = refl
parent_named x id e (r ∷ rows) = elim (cases_Bool (r.id == id)) [
  | inl y ↦ rw (y, parent_named x id e rows) refl
  | inr y ↦ rw (y, parent_named x id e rows) refl
]

pub parent_put : (x id to : ℕ) (rows : List FolderRow) → (x == id) ≡ false → parent_of x (map (folder_moved id to) rows) ≡ parent_of x rows
parent_put x id to [] h = refl
parent_put x id to (r ∷ rows) h = elim (cases_Bool (r.id == id)) [
  | inl y ↦
      let same : r.id ≡ id = eqb-true r.id id y in
      let other : (r.id == x) ≡ false = grind (arith, nat_tests, h, same) in
      rw (y, other) (parent_put x id to rows h)
  | inr y ↦ rw (y, parent_put x id to rows h) refl
]

pub parent_taken : (x id : ℕ) (rows : List FolderRow) → (x == id) ≡ false → parent_of x (filter (λ (row : FolderRow). not (row.id == id)) rows) ≡ parent_of x rows
parent_taken x id [] h = refl
parent_taken x id (r ∷ rows) h = elim (cases_Bool (r.id == id)) [
  | inl y ↦
      let same : r.id ≡ id = eqb-true r.id id y in
      let other : (r.id == x) ≡ false = grind (arith, nat_tests, h, same) in
      rw (y, other) (parent_taken x id rows h)
  | inr y ↦ rw (y, parent_taken x id rows h) refl
]

-- ---- what lies above

-- where all folders stand where they stood
pub lies_alike : (fs gs : List FolderRow) → ((x : ℕ) → parent_of x gs ≡ parent_of x fs) → (n d above : ℕ) → lies_in n d above gs ≡ lies_in n d above fs
unfolding lies_in
lies_alike fs gs same zero d above = refl
lies_alike fs gs same (suc n) d above = rw (same d) (go (parent_of d fs) (λ p. lies_alike fs gs same n p above))
  where
    go : (q : Option ℕ) → ((p : ℕ) → lies_in n p above gs ≡ lies_in n p above fs) → ((d == above) || (elim q [ None ↦ false | Some p ↦ lies_in n p above gs ])) ≡ ((d == above) || (elim q [ None ↦ false | Some p ↦ lies_in n p above fs ]))
    go None more = refl
    go (Some p) more = ap (λ b. (d == above) || b) (more p)

-- where all but one do, in which nothing stands
pub lies_beside : (x : ℕ) (fs gs : List FolderRow) → ((y : ℕ) → (y == x) ≡ false → parent_of y gs ≡ parent_of y fs) → ((y p : ℕ) → parent_of y fs ≡ Some p → (p == x) ≡ false)
    → (n d above : ℕ) → (d == x) ≡ false → lies_in n d above gs ≡ lies_in n d above fs
unfolding lies_in
lies_beside x fs gs same none zero d above h = refl
lies_beside x fs gs same none (suc n) d above h = rw (same d h) (go (parent_of d fs) refl (λ p k. lies_beside x fs gs same none n p above k))
  where
    go : (q : Option ℕ) → parent_of d fs ≡ q → ((p : ℕ) → (p == x) ≡ false → lies_in n p above gs ≡ lies_in n p above fs) → ((d == above) || (elim q [ None ↦ false | Some p ↦ lies_in n p above gs ])) ≡ ((d == above) || (elim q [ None ↦ false | Some p ↦ lies_in n p above fs ]))
    go None e more = refl
    go (Some p) e more = ap (λ b. (d == above) || b) (more p (none d p e))

-- nothing lies below a folder in which nothing stands
pub lies_nowhere : (x : ℕ) (fs : List FolderRow) → ((y p : ℕ) → parent_of y fs ≡ Some p → (p == x) ≡ false) → (n d : ℕ) → (d == x) ≡ false → lies_in n d x fs ≡ false
unfolding lies_in
lies_nowhere x fs none zero d h = h
lies_nowhere x fs none (suc n) d h = rw h (go (parent_of d fs) refl (λ p k. lies_nowhere x fs none n p k))
  where
    go : (q : Option ℕ) → parent_of d fs ≡ q → ((p : ℕ) → (p == x) ≡ false → lies_in n p x fs ≡ false) → (elim q [ None ↦ false | Some p ↦ lies_in n p x fs ]) ≡ false
    go None e more = refl
    go (Some p) e more = more p (none d p e)

-- where all but one do, and the folder doesn't lie in that one
pub lies_apart : (x : ℕ) (fs gs : List FolderRow) → ((y : ℕ) → (y == x) ≡ false → parent_of y gs ≡ parent_of y fs) → (n d above : ℕ) → lies_in n d x fs ≡ false → lies_in n d above gs ≡ lies_in n d above fs
unfolding lies_in
lies_apart x fs gs same zero d above h = refl
lies_apart x fs gs same (suc n) d above h =
    let parts = or_parts (d == x) (elim (parent_of d fs) [ None ↦ false | Some p ↦ lies_in n p x fs ]) h in
    rw (same d parts.0) (go (parent_of d fs) parts.1 (λ p k. lies_apart x fs gs same n p above k))
  where
    go : (q : Option ℕ) → (elim q [ None ↦ false | Some p ↦ lies_in n p x fs ]) ≡ false → ((p : ℕ) → lies_in n p x fs ≡ false → lies_in n p above gs ≡ lies_in n p above fs) → ((d == above) || (elim q [ None ↦ false | Some p ↦ lies_in n p above gs ])) ≡ ((d == above) || (elim q [ None ↦ false | Some p ↦ lies_in n p above fs ]))
    go None e more = refl
    go (Some p) e more = ap (λ b. (d == above) || b) (more p e)

-- ---- what is true of each folder in which something stands

pub home_holds : (P : ℕ → Type 0) (o : Object) (ps : List Placed) (d : ℕ) → AllByRecursion (λ (p : Placed). P p.folder) ps → home_in o ps ≡ Some d → P d
home_holds P o [] d all h = cc
home_holds P o (p ∷ ps) d all h = elim (cases_Bool (same_object p.object o)) [
  | inl y ↦ let e : p.folder ≡ d = some_one (rw y at h) in rw (sym e) all.0
  | inr y ↦ home_holds P o ps d all.1 (rw y at h)
]
  where
    some_one : Some p.folder ≡ Some d → p.folder ≡ d
    some_one e = cc

pub parent_holds : (P : ℕ → Type 0) (x : ℕ) (fs : List FolderRow) (d : ℕ) → AllByRecursion (λ (p : Placed). P p.folder) (placed_folders fs) → parent_of x fs ≡ Some d → P d
parent_holds P x [] d all h = cc
parent_holds P x (r ∷ rows) d all h = go r.parent refl (λ a k. parent_holds P x rows d a k)
  where
    go : (q : Option ℕ) → r.parent ≡ q → (AllByRecursion (λ (p : Placed). P p.folder) (placed_folders rows) → parent_of x rows ≡ Some d → P d) → P d
    go None e more = elim (cases_Bool (r.id == x)) [
      | inl y ↦ let k : None ≡ Some d = sym e ∙ (rw y at h) in cc
      | inr y ↦ more (rw e at all) (rw y at h)
    ]
    go (Some p) e more = elim (cases_Bool (r.id == x)) [
      | inl y ↦
          let k : Some p ≡ Some d = sym e ∙ (rw y at h) in
          let same : p ≡ d = cc in
          let both = rw e at all in
          rw (sym same) both.0
      | inr y ↦ let both = rw e at all in more both.1 (rw y at h)
    ]

all_front : (P : Placed → Type 0) (xs ys : List Placed) → AllByRecursion P (xs ++ ys) → AllByRecursion P xs
all_front P [] ys all = tt
all_front P (x ∷ xs) ys all = (all.0, all_front P xs ys all.1)

pub of_folders : (P : Placed → Type 0) (f : Lists) → AllByRecursion P (placed f) → AllByRecursion P (placed_folders f.folders)
unfolding placed
of_folders P f all =
    all_front P (placed_folders f.folders) (map placed_group f.groups)
    (all_front P (placed_folders f.folders ++ map placed_group f.groups) (map placed_definition f.definitions)
    (all_front P (placed_folders f.folders ++ map placed_group f.groups ++ map placed_definition f.definitions) (map placed_attribute f.attributes) all))
