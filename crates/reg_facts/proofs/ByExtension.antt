-- The entries of a folder's index are the objects in the folder, kind by kind in the order of their extensions.
use Rattle.std.proofs.Common.{◌≡◌, ◌==◌, ◌∷◌, ◌++◌, [], ℕ, List, Bool, true, false, Option, Some, None, refl, sym, ap, ◌∙◌, map, append_assoc, bytes_eq, inl, inr}
use Rattle.std.specs.Prelude.{if◌then◌else◌, ◌||◌}
use Rattle.std.specs.List.{AllByRecursion, list_any}
use Rattle.std.specs.List.Sorted.{IsStrictlySortedBy}
use Rattle.std.specs.Map.{lookup, keys_of}
use Rattle.std.specs.BTreeMap.{is_at}
use Rattle.std.specs.BTreeSet.{BTreeSet, insert_key}
use Rattle.std.specs.Cmp.Lexicographic.{slice_cmp}
use Rattle.std.specs.Ordering.{nat_cmp, is_eq, match_ordering, ordering_reverse}
use Rattle.std.specs.declared.cmp.Ordering.{Ordering}
use Rattle.std.specs.declared.cmp.Ordering.TheVariants.{Less, Equal, Greater}
use Rattle.std.proofs.lemmas.Cmp.{nat_list_cmp_total}
use Rattle.std.proofs.lemmas.Map.Text.{is_eq-slice_cmp}
use Rattle.std.proofs.lemmas.Map.Lookups.{exact_bytes, btree_set_from_contains}
use Rattle.std.proofs.lemmas.Slice.Eq.{bytes_eq-Decides}
use Rattle.std.proofs.lemmas.Bool.{cases_Bool, eqb-true}
use Rattle.std.proofs.lemmas.List.{append-nil}
use Rattle.reg_terms.specs.declared.kinds.Object.{Object}
use Rattle.reg_terms.specs.declared.kinds.Object.TheVariants.{Folder, Group, Def, Attr, Subject}
use Rattle.reg_terms.specs.declared.rows.FolderRow.{FolderRow}
use Rattle.reg_table.specs.Keyed.{put_into}
use Rattle.reg_facts.specs.declared.child_names.ChildNames.{ChildNames}
use Rattle.reg_facts.specs.Children.{by_bytes, is_among, child_names, extensions_in, no_names, with_name, with_names}
use Rattle.reg_facts.specs.Lists.{Lists}
use Rattle.reg_facts.specs.Naming.{Placed, placed, placed_folders, placed_group, placed_definition, placed_attribute, found_in, name_in}
use Rattle.reg_facts.specs.Sound.{AreApart}

-- the order of texts, and whether one is among some
abbrev text_cmp : List ℕ → List ℕ → Ordering
text_cmp a b = slice_cmp nat_cmp a b

abbrev has : List ℕ → List (List ℕ) → Bool
has k xs = list_any (is_at (text_cmp k)) xs

same_text : (a b : List ℕ) → is_at (text_cmp a) b ≡ true → a ≡ b
same_text a b h = (bytes_eq-Decides a b).0 (sym (is_eq-slice_cmp a b) ∙ h)

text_there : (a b : List ℕ) → bytes_eq b a ≡ is_at (text_cmp a) b
text_there a b = elim (cases_Bool (bytes_eq b a)) [
  | inl t ↦ t ∙ sym (is_eq-slice_cmp a b ∙ (bytes_eq-Decides a b).1 (sym ((bytes_eq-Decides b a).0 t)))
  | inr t ↦ elim (cases_Bool (is_at (text_cmp a) b)) [
    | inl u ↦ absurd (let both : false ≡ true = sym t ∙ (bytes_eq-Decides b a).1 (sym (same_text a b u)) in let clash : ⊥ = cc in clash)
    | inr u ↦ t ∙ sym u
  ]
]

-- ---- texts put in order
insert_has : (k x : List ℕ) (xs : List (List ℕ)) → has k (insert_key text_cmp xs x) ≡ (is_at (text_cmp k) x || has k xs)
insert_has k x [] = refl
insert_has k x (y ∷ xs) = by_order (text_cmp x y) refl (insert_has k x xs)
  where
    twice : (a b : Bool) → (a || b) ≡ (a || (a || b))
    twice true b = refl
    twice false b = refl

    turned : (a b c : Bool) → (a || (b || c)) ≡ (b || (a || c))
    turned true true c = refl
    turned true false c = refl
    turned false b c = refl

    by_order : (o : Ordering) → text_cmp x y ≡ o → has k (insert_key text_cmp xs x) ≡ (is_at (text_cmp k) x || has k xs)
        → has k (match_ordering o (x ∷ y ∷ xs) (y ∷ xs) (y ∷ insert_key text_cmp xs x)) ≡ (is_at (text_cmp k) x || (is_at (text_cmp k) y || has k xs))
    by_order Less e rest = refl
    by_order Equal e rest = rw (exact_bytes x y e) (twice (is_at (text_cmp k) y) (has k xs))
    by_order Greater e rest = ap (λ b. is_at (text_cmp k) y || b) rest ∙ turned (is_at (text_cmp k) y) (is_at (text_cmp k) x) (has k xs)

into_has : (k : List ℕ) (found xs : List (List ℕ)) → has k (put_into text_cmp found xs) ≡ (has k found || has k xs)
into_has k found [] = none_more (has k found)
  where
    none_more : (a : Bool) → a ≡ (a || false)
    none_more true = refl
    none_more false = refl
into_has k found (x ∷ xs) = into_has k (insert_key text_cmp found x) xs ∙ (ap (λ b. b || has k xs) (insert_has k x found) ∙ turned (is_at (text_cmp k) x) (has k found) (has k xs))
  where
    turned : (a b c : Bool) → ((a || b) || c) ≡ (b || (a || c))
    turned true true c = refl
    turned true false c = refl
    turned false b c = refl

-- all of some texts are above one
abbrev Above : List ℕ → List (List ℕ) → Type 0
Above k xs = AllByRecursion (λ x. text_cmp k x ≡ Less) xs

above_on : (k q : List ℕ) (xs : List (List ℕ)) → text_cmp k q ≡ Less → Above q xs → Above k xs
above_on k q [] h up = tt
above_on k q (x ∷ xs) h up = (nat_list_cmp_total.trans k q x h up.0, above_on k q xs h up.1)

insert_above : (k x : List ℕ) (xs : List (List ℕ)) → text_cmp k x ≡ Less → Above k xs → Above k (insert_key text_cmp xs x)
insert_above k x [] h up = (h, tt)
insert_above k x (y ∷ xs) h up = by_order (text_cmp x y) (insert_above k x xs h up.1)
  where
    by_order : (o : Ordering) → Above k (insert_key text_cmp xs x) → Above k (match_ordering o (x ∷ y ∷ xs) (y ∷ xs) (y ∷ insert_key text_cmp xs x))
    by_order Less rest = (h, up)
    by_order Equal rest = up
    by_order Greater rest = (up.0, rest)

insert_sorted : (x : List ℕ) (xs : List (List ℕ)) → IsStrictlySortedBy text_cmp xs → IsStrictlySortedBy text_cmp (insert_key text_cmp xs x)
unfolding IsStrictlySortedBy
insert_sorted x [] up = (tt, tt)
insert_sorted x (y ∷ xs) up = by_order (text_cmp x y) refl (insert_sorted x xs up.1)
  where
    by_order : (o : Ordering) → text_cmp x y ≡ o → IsStrictlySortedBy text_cmp (insert_key text_cmp xs x) → IsStrictlySortedBy text_cmp (match_ordering o (x ∷ y ∷ xs) (y ∷ xs) (y ∷ insert_key text_cmp xs x))
    by_order Less e rest = ((e, above_on x y xs e up.0), up)
    by_order Equal e rest = up
    by_order Greater e rest = (insert_above y x xs (nat_list_cmp_total.antisymm y x ∙ ap ordering_reverse e) up.0, rest)

into_sorted : (found xs : List (List ℕ)) → IsStrictlySortedBy text_cmp found → IsStrictlySortedBy text_cmp (put_into text_cmp found xs)
into_sorted found [] up = up
into_sorted found (x ∷ xs) up = into_sorted (insert_key text_cmp found x) xs (insert_sorted x found up)

none_sorted : IsStrictlySortedBy text_cmp []
unfolding IsStrictlySortedBy
none_sorted = tt

-- texts put in order are sorted, and the same texts
pub by_bytes_sorted : (texts : List (List ℕ)) → IsStrictlySortedBy text_cmp (by_bytes texts)
by_bytes_sorted texts = into_sorted [] texts none_sorted

among_has : (k : List ℕ) (xs : List (List ℕ)) → is_among k xs ≡ has k xs
among_has k [] = refl
among_has k (x ∷ xs) = rw (text_there k x, among_has k xs) refl

pub by_bytes_same : (text : List ℕ) (texts : List (List ℕ)) → is_among text (by_bytes texts) ≡ is_among text texts
by_bytes_same text texts = among_has text (by_bytes texts) ∙ into_has text [] texts ∙ sym (among_has text texts)

-- texts in order are told by which they are
texts_are : (xs ys : List (List ℕ)) → IsStrictlySortedBy text_cmp xs → ((k : List ℕ) → has k xs ≡ has k ys) → xs ≡ by_bytes ys
texts_are xs ys up same =
    let found : BTreeSet (List ℕ) = record { keys = xs } in
    let put : BTreeSet (List ℕ) = record { keys = by_bytes ys } in
    btree_set_from_contains nat_list_cmp_total found put up (into_sorted [] ys none_sorted) (λ k. same k ∙ sym (into_has k [] ys)) exact_bytes

-- ---- the objects in a folder that pass a test
abbrev passes : (Object → Bool) → Option Object → Bool
passes test None = false
passes test (Some o) = test o

abbrev where_in : (Object → Bool) → ℕ → List Placed → List (List ℕ)
where_in test d [] = []
where_in test d (p ∷ ps) = if p.folder == d then (if test p.object then p.extension ∷ where_in test d ps else where_in test d ps) else where_in test d ps

found_where : (test : Object → Bool) (d : ℕ) (k : List ℕ) (ps : List Placed) → AreApart ps → has k (where_in test d ps) ≡ passes test (found_in d k ps)
found_where test d k [] apart = refl
found_where test d k (p ∷ ps) apart = elim (cases_Bool (p.folder == d)) [
  | inl t ↦ elim (cases_Bool (is_at (text_cmp k) p.extension)) [
    | inl u ↦
        let none : found_in d k ps ≡ None = rw (eqb-true p.folder d t, ← same_text k p.extension u) at apart.0 in
        let rest : has k (where_in test d ps) ≡ false = found_where test d k ps apart.1 ∙ ap (passes test) none in
        elim (cases_Bool (test p.object)) [
          | inl v ↦ rw (t, text_there k p.extension ∙ u, v, u) refl
          | inr v ↦ rw (t, text_there k p.extension ∙ u, v) rest
        ]
    | inr u ↦ elim (cases_Bool (test p.object)) [
      | inl v ↦ rw (t, text_there k p.extension ∙ u, v, u) (found_where test d k ps apart.1)
      | inr v ↦ rw (t, text_there k p.extension ∙ u, v) (found_where test d k ps apart.1)
    ]
  ]
  | inr t ↦ rw t (found_where test d k ps apart.1)
]

where_append : (test : Object → Bool) (d : ℕ) (ps qs : List Placed) → where_in test d (ps ++ qs) ≡ where_in test d ps ++ where_in test d qs
where_append test d [] qs = refl
where_append test d (p ∷ ps) qs = elim (cases_Bool (p.folder == d)) [
  | inl t ↦ elim (cases_Bool (test p.object)) [
    | inl v ↦ rw (t, v) (ap (λ xs. p.extension ∷ xs) (where_append test d ps qs))
    | inr v ↦ rw (t, v) (where_append test d ps qs)
  ]
  | inr t ↦ rw t (where_append test d ps qs)
]

-- all of a kind, and none of another
all_where : {R : Type 0} (test : Object → Bool) (view : R → Placed) (d : ℕ) (rows : List R) → ((row : R) → test (view row).object ≡ true) → where_in test d (map view rows) ≡ extensions_in d (map view rows)
all_where test view d [] h = refl
all_where test view d (row ∷ rows) h = rw (h row, all_where test view d rows h) refl

none_where : {R : Type 0} (test : Object → Bool) (view : R → Placed) (d : ℕ) (rows : List R) → ((row : R) → test (view row).object ≡ false) → where_in test d (map view rows) ≡ []
none_where test view d [] h = refl
none_where test view d (row ∷ rows) h = elim (cases_Bool ((view row).folder == d)) [
  | inl t ↦ rw (t, h row) (none_where test view d rows h)
  | inr t ↦ rw t (none_where test view d rows h)
]

-- a folder in front of others, if it stands in one
abbrev with_folder : FolderRow → List FolderRow → Option ℕ → List Placed
with_folder row rows parent = elim parent [ None ↦ placed_folders rows | Some p ↦ (record { object = Folder row.id; folder = p; extension = row.extension }) ∷ placed_folders rows ]

all_folders : (test : Object → Bool) (d : ℕ) (rows : List FolderRow) → ((n : ℕ) → test (Folder n) ≡ true) → where_in test d (placed_folders rows) ≡ extensions_in d (placed_folders rows)
all_folders test d [] h = refl
all_folders test d (row ∷ rows) h = by_parent row.parent (all_folders test d rows h)
  where
    by_parent : (parent : Option ℕ) → where_in test d (placed_folders rows) ≡ extensions_in d (placed_folders rows) → where_in test d (with_folder row rows parent) ≡ extensions_in d (with_folder row rows parent)
    by_parent None rest = rest
    by_parent (Some p) rest = rw (h row.id, rest) refl

none_folders : (test : Object → Bool) (d : ℕ) (rows : List FolderRow) → ((n : ℕ) → test (Folder n) ≡ false) → where_in test d (placed_folders rows) ≡ []
none_folders test d [] h = refl
none_folders test d (row ∷ rows) h = by_parent row.parent (none_folders test d rows h)
  where
    by_parent : (parent : Option ℕ) → where_in test d (placed_folders rows) ≡ [] → where_in test d (with_folder row rows parent) ≡ []
    by_parent None rest = rest
    by_parent (Some p) rest = elim (cases_Bool (p == d)) [
      | inl t ↦ rw (t, h row.id) rest
      | inr t ↦ rw t rest
    ]

-- those of a kind among all
abbrev parts_where : (Object → Bool) → ℕ → Lists → List (List ℕ)
parts_where test d f = ((where_in test d (placed_folders f.folders) ++ where_in test d (map placed_group f.groups)) ++ where_in test d (map placed_definition f.definitions)) ++ where_in test d (map placed_attribute f.attributes)

where_parts : (test : Object → Bool) (d : ℕ) (f : Lists) → where_in test d (placed f) ≡ parts_where test d f
unfolding placed
where_parts test d f =
    where_append test d ((placed_folders f.folders ++ map placed_group f.groups) ++ map placed_definition f.definitions) (map placed_attribute f.attributes)
    ∙ ap (λ xs. xs ++ where_in test d (map placed_attribute f.attributes))
    (where_append test d (placed_folders f.folders ++ map placed_group f.groups) (map placed_definition f.definitions)
    ∙ ap (λ xs. xs ++ where_in test d (map placed_definition f.definitions)) (where_append test d (placed_folders f.folders) (map placed_group f.groups)))

abbrev is_folder : Object → Bool
is_folder (Folder d) = true
is_folder (Group g) = false
is_folder (Def a) = false
is_folder (Attr a) = false
is_folder (Subject s) = false

abbrev is_group : Object → Bool
is_group (Folder d) = false
is_group (Group g) = true
is_group (Def a) = false
is_group (Attr a) = false
is_group (Subject s) = false

abbrev is_definition : Object → Bool
is_definition (Folder d) = false
is_definition (Group g) = false
is_definition (Def a) = true
is_definition (Attr a) = false
is_definition (Subject s) = false

abbrev is_attribute : Object → Bool
is_attribute (Folder d) = false
is_attribute (Group g) = false
is_attribute (Def a) = false
is_attribute (Attr a) = true
is_attribute (Subject s) = false

folders_where : (d : ℕ) (f : Lists) → where_in is_folder d (placed f) ≡ extensions_in d (placed_folders f.folders)
folders_where d f =
    where_parts is_folder d f
    ∙ rw (
      all_folders is_folder d f.folders (λ n. refl),
      none_where is_folder placed_group d f.groups (λ r. refl),
      none_where is_folder placed_definition d f.definitions (λ r. refl),
      none_where is_folder placed_attribute d f.attributes (λ r. refl),
      append-nil (extensions_in d (placed_folders f.folders)),
      append-nil (extensions_in d (placed_folders f.folders)),
      append-nil (extensions_in d (placed_folders f.folders)),
    ) refl

groups_where : (d : ℕ) (f : Lists) → where_in is_group d (placed f) ≡ extensions_in d (map placed_group f.groups)
groups_where d f =
    where_parts is_group d f
    ∙ rw (
      none_folders is_group d f.folders (λ n. refl),
      all_where is_group placed_group d f.groups (λ r. refl),
      none_where is_group placed_definition d f.definitions (λ r. refl),
      none_where is_group placed_attribute d f.attributes (λ r. refl),
      append-nil (extensions_in d (map placed_group f.groups)),
      append-nil (extensions_in d (map placed_group f.groups)),
    ) refl

definitions_where : (d : ℕ) (f : Lists) → where_in is_definition d (placed f) ≡ extensions_in d (map placed_definition f.definitions)
definitions_where d f =
    where_parts is_definition d f
    ∙ rw (
      none_folders is_definition d f.folders (λ n. refl),
      none_where is_definition placed_group d f.groups (λ r. refl),
      all_where is_definition placed_definition d f.definitions (λ r. refl),
      none_where is_definition placed_attribute d f.attributes (λ r. refl),
      append-nil (extensions_in d (map placed_definition f.definitions)),
    ) refl

attributes_where : (d : ℕ) (f : Lists) → where_in is_attribute d (placed f) ≡ extensions_in d (map placed_attribute f.attributes)
attributes_where d f =
    where_parts is_attribute d f
    ∙ rw (none_folders is_attribute d f.folders (λ n. refl), none_where is_attribute placed_group d f.groups (λ r. refl), none_where is_attribute placed_definition d f.definitions (λ r. refl), all_where is_attribute placed_attribute d f.attributes (λ r. refl)) refl

-- ---- the entries of the index
module _ {K : Type 0} (bytes : K → List ℕ) where
  abbrev kept : (Object → Bool) → List (K × Object) → List (List ℕ)
  kept test [] = []
  kept test (e ∷ es) = if test e.1 then bytes e.0 ∷ kept test es else kept test es

  abbrev Sorted : List (K × Object) → Type 0
  Sorted es = IsStrictlySortedBy (λ a b. slice_cmp nat_cmp (bytes a) (bytes b)) (keys_of es)

  kept_above : (test : Object → Bool) (k : List ℕ) (es : List (K × Object)) → AllByRecursion (λ q. slice_cmp nat_cmp k (bytes q) ≡ Less) (keys_of es) → Above k (kept test es)
  kept_above test k [] up = tt
  kept_above test k (e ∷ es) up = elim (cases_Bool (test e.1)) [
    | inl t ↦ rw t (up.0, kept_above test k es up.1)
    | inr t ↦ rw t (kept_above test k es up.1)
  ]

  kept_sorted : (test : Object → Bool) (es : List (K × Object)) → Sorted es → IsStrictlySortedBy text_cmp (kept test es)
  unfolding IsStrictlySortedBy
  kept_sorted test [] up = tt
  kept_sorted test (e ∷ es) up = elim (cases_Bool (test e.1)) [
    | inl t ↦ rw t (kept_above test (bytes e.0) es up.0, kept_sorted test es up.1)
    | inr t ↦ rw t (kept_sorted test es up.1)
  ]

  above_none : (k : List ℕ) (xs : List (List ℕ)) → Above k xs → has k xs ≡ false
  above_none k [] up = refl
  above_none k (x ∷ xs) up = rw (ap is_eq up.0) (above_none k xs up.1)

  kept_has : (test : Object → Bool) (k : List ℕ) (es : List (K × Object)) → Sorted es → has k (kept test es) ≡ passes test (lookup (is_at (λ q. slice_cmp nat_cmp k (bytes q))) es)
  unfolding IsStrictlySortedBy
  kept_has test k [] up = refl
  kept_has test k (e ∷ es) up = elim (cases_Bool (is_at (text_cmp k) (bytes e.0))) [
    | inl u ↦
        let rest : has k (kept test es) ≡ false = above_none k (kept test es) (rw (same_text k (bytes e.0) u) (kept_above test (bytes e.0) es up.0)) in
        elim (cases_Bool (test e.1)) [
          | inl v ↦ rw (u, v, u) refl
          | inr v ↦ rw (u, v) rest
        ]
    | inr u ↦ elim (cases_Bool (test e.1)) [
      | inl v ↦ rw (u, v, u) (kept_has test k es up.1)
      | inr v ↦ rw (u, v) (kept_has test k es up.1)
    ]
  ]

  -- the entries find what stands in a folder
  abbrev Finds : ℕ → List (K × Object) → List Placed → Type 0
  Finds d es ps = (k : List ℕ) → lookup (is_at (λ q. slice_cmp nat_cmp k (bytes q))) es ≡ found_in d k ps

  kind_is : (test : Object → Bool) (d : ℕ) (es : List (K × Object)) (ps : List Placed) (xs : List (List ℕ)) → Sorted es → AreApart ps → Finds d es ps → where_in test d ps ≡ xs → kept test es ≡ by_bytes xs
  kind_is test d es ps xs up apart found is =
      texts_are (kept test es) xs (kept_sorted test es up) (λ k. kept_has test k es up ∙ (ap (passes test) (found k) ∙ (sym (found_where test d k ps apart) ∙ ap (has k) is)))

  -- the names put one after another are those of each kind
  abbrev named : List ℕ → (Object → Bool) → List (K × Object) → List (List ℕ)
  named home test es = map (name_in home) (kept test es)

  abbrev more_names : List ℕ → List (K × Object) → ChildNames → ChildNames
  more_names home es names = record {
    attributes = names.attributes ++ named home is_attribute es;
    definitions = names.definitions ++ named home is_definition es;
    folders = names.folders ++ named home is_folder es;
    groups = names.groups ++ named home is_group es;
  }

  pushed : (x : List ℕ) (a b : List (List ℕ)) → (a ++ x ∷ []) ++ b ≡ a ++ x ∷ b
  pushed x a b = append_assoc a (x ∷ []) b

  put_names : (home : List ℕ) (es : List (K × Object)) (names : ChildNames) → with_names bytes home es names ≡ more_names home es names
  put_names home [] names = rw (append-nil names.attributes, append-nil names.definitions, append-nil names.folders, append-nil names.groups) refl
  put_names home (e ∷ es) names = put_names home es (with_name e.1 (name_in home (bytes e.0)) names) ∙ by_kind e.1
    where
      by_kind : (o : Object) → more_names home es (with_name o (name_in home (bytes e.0)) names) ≡ more_names home ((e.0, o) ∷ es) names
      by_kind (Folder d) = rw (pushed (name_in home (bytes e.0)) names.folders (named home is_folder es)) refl
      by_kind (Group g) = rw (pushed (name_in home (bytes e.0)) names.groups (named home is_group es)) refl
      by_kind (Def a) = rw (pushed (name_in home (bytes e.0)) names.definitions (named home is_definition es)) refl
      by_kind (Attr a) = rw (pushed (name_in home (bytes e.0)) names.attributes (named home is_attribute es)) refl
      by_kind (Subject s) = refl

  pub names_are : (home : List ℕ) (d : ℕ) (es : List (K × Object)) (f : Lists) → Sorted es → AreApart (placed f) → Finds d es (placed f) → with_names bytes home es no_names ≡ child_names d home f
  names_are home d es f up apart found =
      put_names home es no_names
      ∙ rw (
        kind_is is_attribute d es (placed f) (extensions_in d (map placed_attribute f.attributes)) up apart found (attributes_where d f),
        kind_is is_definition d es (placed f) (extensions_in d (map placed_definition f.definitions)) up apart found (definitions_where d f),
        kind_is is_folder d es (placed f) (extensions_in d (placed_folders f.folders)) up apart found (folders_where d f),
        kind_is is_group d es (placed f) (extensions_in d (map placed_group f.groups)) up apart found (groups_where d f),
      ) refl

-- no entry, and no object
pub no_children : (home : List ℕ) (d : ℕ) (f : Lists) → AreApart (placed f) → ((k : List ℕ) → found_in d k (placed f) ≡ None) → no_names ≡ child_names d home f
unfolding IsStrictlySortedBy
no_children home d f apart none = names_are {K = List ℕ} (λ k. k) home d [] f tt apart (λ k. sym (none k))
