-- What a folder's listing shows is what the facts have in it, of what the caller sees.
use Rattle.std.proofs.Common.{◌≡◌, ◌==◌, ◌&&◌, ◌∷◌, ◌++◌, ℕ, List, [], Bool, true, false, Some, None, ◌⊎◌, inl, inr, refl, sym, ap, ◌∙◌, map, filter, bytes_eq}
use Rattle.std.specs.Prelude.{codes, not, IsSome}
use Rattle.std.specs.List.{AllByRecursion}
use Rattle.std.proofs.lemmas.Bool.{cases_Bool, both_ways, eqb-true, eq-eqb, false_from_ne_true}
use Rattle.reg_terms.specs.declared.kinds.Object.{Object}
use Rattle.reg_terms.specs.declared.kinds.Object.TheVariants.{Folder}
use Rattle.reg_terms.specs.declared.rows.FolderRow.{FolderRow}
use Rattle.reg_terms.specs.declared.rows.GroupRow.{GroupRow}
use Rattle.reg_terms.specs.declared.rows.DefinitionRow.{DefinitionRow}
use Rattle.reg_terms.specs.declared.rows.AttributeRow.{AttributeRow}
use Rattle.reg_facts.specs.Children.{extensions_in}
use Rattle.reg_facts.specs.Lists.{Lists, root, root_row}
use Rattle.reg_facts.specs.Named.{AreNamed}
use Rattle.reg_facts.specs.Naming.{Placed, placed, placed_folders, placed_group, placed_definition, placed_attribute, home_of, name_in, name_of, resolve}
use Rattle.reg_facts.specs.Sound.{BeginsAtRoot, IsSound}
use Rattle.reg_view.specs.View.{folder_object, shown_where}
use Rattle.reg_view.proofs.Homes.{Stands, all_stand}
use Rattle.reg_view.proofs.Same.{bytes_same, bytes_self}

-- whether a name is of what stands directly in the folder of this name
abbrev pub is_inside : List ℕ → List ℕ → Bool
is_inside home n = bytes_eq (home_of n) home && not (bytes_eq n (codes ":"))

-- the parts of all
all_left : {X : Type 0} (P : X → Type 0) (xs ys : List X) → AllByRecursion P (xs ++ ys) → AllByRecursion P xs
all_left P [] ys all = tt
all_left P (x ∷ xs) ys all = (all.0, all_left P xs ys all.1)

all_right : {X : Type 0} (P : X → Type 0) (xs ys : List X) → AllByRecursion P (xs ++ ys) → AllByRecursion P ys
all_right P [] ys all = all
all_right P (x ∷ xs) ys all = all_right P xs ys all.1

all_of_map : {R X : Type 0} (P : X → Type 0) (g : R → X) (rows : List R) → AllByRecursion P (map g rows) → AllByRecursion (λ (r : R). P (g r)) rows
all_of_map P g [] all = tt
all_of_map P g (r ∷ rows) all = (all.0, all_of_map P g rows all.1)

-- one step of a list whose heads agree
keep : (test other : List ℕ → Bool) (a b : List ℕ) (xs ys : List (List ℕ)) → a ≡ b → test a ≡ true → other b ≡ true → filter test xs ≡ filter other ys → filter test (a ∷ xs) ≡ filter other (b ∷ ys)
keep test other a b xs ys is yes_a yes_b rest = rw (yes_a, yes_b, is, rest) refl

skip : (test : List ℕ → Bool) (a : List ℕ) (xs : List (List ℕ)) → test a ≡ false → filter test (a ∷ xs) ≡ filter test xs
skip test a xs h = rw h refl

never_inside : (home : List ℕ) → is_inside home (codes ":") ≡ false
never_inside home = elim (cases_Bool (bytes_eq (home_of (codes ":")) home)) [ inl t ↦ rw t refl | inr t ↦ rw t refl ]

root_found : (f : Lists) → resolve (codes ":") f ≡ Some (Folder root)
unfolding resolve
root_found f = refl

module _ (f : Lists) (are : AreNamed f) (d : ℕ) (home : List ℕ) (at : resolve home f ≡ Some (Folder d)) (sees : Object → Bool) (test : List ℕ → Bool) (tests : (text : List ℕ) (o : Object) → resolve text f ≡ Some o → test text ≡ sees o) where
  -- what stands elsewhere isn't inside
  apart : (p : Placed) → Stands f p → (p.folder == d) ≡ false → is_inside home (name_of p.object f) ≡ false
  apart p s other =
      let off : bytes_eq (home_of (name_of p.object f)) home ≡ false = false_from_ne_true (bytes_eq (home_of (name_of p.object f)) home) (λ t.
      let same : name_of (Folder p.folder) f ≡ home = sym s.home ∙ bytes_same (home_of (name_of p.object f)) home t in
      let one : Some (Folder p.folder) ≡ Some (Folder d) = sym s.home_found ∙ ap (λ text. resolve text f) same ∙ at in
      let is : p.folder ≡ d = cc in
      both_ways (p.folder == d) other (eq-eqb p.folder d is)) in
      ap (λ (b : Bool). b && not (bytes_eq (name_of p.object f) (codes ":"))) off

  -- what stands here is, under its name
  here : (p : Placed) → Stands f p → (p.folder == d) ≡ true → (name_in home p.extension ≡ name_of p.object f) × (is_inside home (name_of p.object f) ≡ true)
  here p s this =
      let is : p.folder ≡ d = eqb-true p.folder d this in
      let folder : name_of (Folder p.folder) f ≡ home = ap (λ x. name_of (Folder x) f) is ∙ (are.found home (Folder d) at).0 in
      let inside : bytes_eq (home_of (name_of p.object f)) home ≡ true = ap (λ text. bytes_eq text home) (s.home ∙ folder) ∙ bytes_self home in (
        sym (s.name ∙ ap (λ text. name_in text p.extension) folder),
        ap (λ (b : Bool). b && not (bytes_eq (name_of p.object f) (codes ":"))) inside ∙ ap not s.below,
      )

  -- one object more
  abbrev told : List Placed → List (List ℕ)
  told ps = filter test (map (name_in home) (extensions_in d ps))

  one_more : (p : Placed) (ps : List Placed) (names : List (List ℕ)) → Stands f p → told ps ≡ filter (is_inside home) names
      → (told (p ∷ ps) ≡ filter (is_inside home) (name_of p.object f ∷ names)) ⊎ (sees p.object ≡ false)
  one_more p ps names s rest = elim (cases_Bool (p.folder == d)) [
    | inl t ↦
        let w = here p s t in
        elim (cases_Bool (sees p.object)) [
          | inl y ↦ inl (rw t (keep test (is_inside home) (name_in home p.extension) (name_of p.object f) (map (name_in home) (extensions_in d ps)) names w.0 (tests (name_in home p.extension) p.object (ap (λ text. resolve text f) w.0 ∙ s.found) ∙ y) w.1 rest))
          | inr y ↦ inr y
        ]
    | inr t ↦ inl (rw t (rest ∙ sym (skip (is_inside home) (name_of p.object f) names (apart p s t))))
  ]

  -- one object less
  one_less : (p : Placed) (ps : List Placed) → Stands f p → sees p.object ≡ false → told (p ∷ ps) ≡ told ps
  one_less p ps s n = elim (cases_Bool (p.folder == d)) [
    | inl t ↦
        let w = here p s t in
        rw t (skip test (name_in home p.extension) (map (name_in home) (extensions_in d ps)) (tests (name_in home p.extension) p.object (ap (λ text. resolve text f) w.0 ∙ s.found) ∙ n))
    | inr t ↦ rw t refl
  ]

  -- what is seen of the rows of a kind
  pub rows_listed : {R A : Type 0} (place : R → Placed) (object : R → Object) (show : R → A) (name : A → List ℕ) → ((r : R) → (place r).object ≡ object r) → ((r : R) → name (show r) ≡ name_of (object r) f)
      → (rows : List R) → AllByRecursion (λ (r : R). Stands f (place r)) rows → told (map place rows) ≡ filter (is_inside home) (map name (shown_where object sees show rows))
  rows_listed place object show name is names [] all = refl
  rows_listed place object show name is names (r ∷ rows) all =
      let rest = rows_listed place object show name is names rows all.1 in
      let same : name_of (place r).object f ≡ name (show r) = ap (λ o. name_of o f) (is r) ∙ sym (names r) in
      elim (cases_Bool (sees (object r))) [
        | inl y ↦ rw y (elim (one_more (place r) (map place rows) (map name (shown_where object sees show rows)) all.0 rest) [
          | inl w ↦ w ∙ ap (λ text. filter (is_inside home) (text ∷ map name (shown_where object sees show rows))) same
          | inr n ↦ absurd (both_ways (sees (object r)) (ap sees (sym (is r)) ∙ n) y)
        ])
        | inr n ↦ rw n (one_less (place r) (map place rows) all.0 (ap sees (is r) ∙ n) ∙ rest)
      ]

  -- folders that stand in folders
  below_listed : {A : Type 0} (show : FolderRow → A) (name : A → List ℕ) → ((r : FolderRow) → name (show r) ≡ name_of (Folder r.id) f)
      → (rows : List FolderRow) → AllByRecursion (λ (r : FolderRow). IsSome r.parent) rows → AllByRecursion (Stands f) (placed_folders rows) → told (placed_folders rows) ≡ filter (is_inside home) (map name (shown_where folder_object sees show rows))
  below_listed show name names [] some all = refl
  below_listed show name names (r ∷ rows) some all = elim r.parent as (λ parent. r.parent ≡ parent → told (placed_folders (r ∷ rows)) ≡ filter (is_inside home) (map name (shown_where folder_object sees show (r ∷ rows)))) [
    | None ↦ λ is. absurd (both_ways false refl (rw is at some.0))
    | Some parent ↦ λ is.
        let p : Placed = record { object = Folder r.id; folder = parent; extension = r.extension } in
        let both : AllByRecursion (Stands f) (p ∷ placed_folders rows) = rw is at all in
        let rest = below_listed show name names rows some.1 both.1 in
        let same : placed_folders (r ∷ rows) ≡ p ∷ placed_folders rows = rw is refl in
        ap (λ ps. told ps) same ∙ (elim (cases_Bool (sees (Folder r.id))) [
          | inl y ↦ rw y (elim (one_more p (placed_folders rows) (map name (shown_where folder_object sees show rows)) both.0 rest) [
            | inl w ↦ w ∙ ap (λ text. filter (is_inside home) (text ∷ map name (shown_where folder_object sees show rows))) (sym (names r))
            | inr n ↦ absurd (both_ways (sees (Folder r.id)) n y)
          ])
          | inr n ↦ rw n (one_less p (placed_folders rows) both.0 n ∙ rest)
        ])
  ] refl

  -- and the root, which stands nowhere
  pub folders_listed : {A : Type 0} (show : FolderRow → A) (name : A → List ℕ) → ((r : FolderRow) → name (show r) ≡ name_of (Folder r.id) f) → sees (Folder root) ≡ true
      → (made : ℕ) (rows : List FolderRow) → BeginsAtRoot made rows → AllByRecursion (Stands f) (placed_folders rows) → told (placed_folders rows) ≡ filter (is_inside home) (map name (shown_where folder_object sees show rows))
  folders_listed show name names seen made [] begins all = absurd begins
  folders_listed show name names seen made (r ∷ rows) begins all =
      let stands : AllByRecursion (Stands f) (placed_folders rows) = rw begins.0 at all in
      let rest = below_listed show name names rows begins.2 stands in
      let root_name : name (show root_row) ≡ codes ":" = names root_row ∙ (are.found (codes ":") (Folder root) (root_found f)).0 in
      let out : is_inside home (name (show root_row)) ≡ false = ap (is_inside home) root_name ∙ never_inside home in
      rw (begins.0, seen, out) rest

-- each object of the rows of a kind stands
module _ (f : Lists) (s : IsSound f) (are : AreNamed f) where
  abbrev a : List Placed
  a = placed_folders f.folders

  abbrev b : List Placed
  b = map placed_group f.groups

  abbrev c : List Placed
  c = map placed_definition f.definitions

  abbrev e : List Placed
  e = map placed_attribute f.attributes

  pub folders_stand : AllByRecursion (Stands f) (placed_folders f.folders)
  unfolding placed
  folders_stand = all_left (Stands f) a b (all_left (Stands f) (a ++ b) c (all_left (Stands f) ((a ++ b) ++ c) e (all_stand f s are)))

  pub groups_stand : AllByRecursion (λ (r : GroupRow). Stands f (placed_group r)) f.groups
  unfolding placed
  groups_stand = all_of_map (Stands f) placed_group f.groups (all_right (Stands f) a b (all_left (Stands f) (a ++ b) c (all_left (Stands f) ((a ++ b) ++ c) e (all_stand f s are))))

  pub definitions_stand : AllByRecursion (λ (r : DefinitionRow). Stands f (placed_definition r)) f.definitions
  unfolding placed
  definitions_stand = all_of_map (Stands f) placed_definition f.definitions (all_right (Stands f) (a ++ b) c (all_left (Stands f) ((a ++ b) ++ c) e (all_stand f s are)))

  pub attributes_stand : AllByRecursion (λ (r : AttributeRow). Stands f (placed_attribute r)) f.attributes
  unfolding placed
  attributes_stand = all_of_map (Stands f) placed_attribute f.attributes (all_right (Stands f) ((a ++ b) ++ c) e (all_stand f s are))
