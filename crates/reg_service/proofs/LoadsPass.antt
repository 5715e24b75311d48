-- A load that was planned passes each test of its command but those for room.
use Rattle.std.proofs.Common.{◌≡◌, ◌+◌, ◌-◌, ◌∙◌, ◌⊎◌, ℕ, List, [], ◌∷◌, Bool, true, false, not, Option, None, Some, map, filter, fold, length, get_or, refl, sym, ap, subst, arith, inl, inr, bytes_eq}
use Rattle.std.specs.Prelude.{nat_lt, is_some, Result, Ok, Err}
use Rattle.std.specs.List.{AllByRecursion, filter_map, list_all, list_any, position_or_len}
use Rattle.std.proofs.lemmas.Bool.{and_from, and_parts, cases_Bool, eq-eqb, eqb-true, le-ltb, lt-ltb, or_cases, or_left, or_right}
use Rattle.indexmap.specs.IndexSet.{insert_key}
use Rattle.reg_base.specs.Names.{is_name, is_person}
use Rattle.reg_base.specs.NameParts.{extension_of}
use Rattle.reg_terms.specs.Rows.{is_composite}
use Rattle.reg_terms.specs.declared.kinds.Object.{Object}
use Rattle.reg_terms.specs.declared.kinds.Object.TheVariants.{Folder, Group, Def, Attr, Subject}
use Rattle.reg_terms.specs.declared.rows.JobRow.{JobRow}
use Rattle.reg_terms.specs.declared.rows.PersonRow.{PersonRow}
use Rattle.reg_facts.specs.Edits.{subject_id}
use Rattle.reg_facts.specs.Lists.{Lists}
use Rattle.reg_facts.specs.Named.{AreNamed}
use Rattle.reg_facts.specs.Naming.{Placed, child, home_id, name_of, place_as, place_of, placed, resolve}
use Rattle.reg_facts.specs.Rows.{group_row}
use Rattle.reg_facts.specs.Sound.{IsHeld, IsSound, has_subject}
use Rattle.reg_facts.proofs.Noted.{group_stands}
use Rattle.reg_facts.proofs.Onces.{sound_once}
use Rattle.reg_facts.proofs.PlacedRows.{group_none, group_some}
use Rattle.reg_facts.proofs.Places.{all_filter, bytes_same, bytes_self, cases_option, found_is}
use Rattle.reg_effect.specs.declared.live.Live.{Live}
use Rattle.reg_load.specs.LoadChecks as load
use Rattle.reg_load.specs.LoadChecks.{added_rows, already, created_number, first_fault, first_missing, first_taken, is_elsewhere, load_checks, load_group, load_row, no_number, no_such, removed_rows, stands_in}
use Rattle.reg_load.specs.PersonRows.{comes_twice, stands}
use Rattle.reg_load.proofs.Found.{none_above}
use Rattle.reg_load.proofs.LoadSuits.{group_made}
use Rattle.reg_loader.specs.Mentions.{group_text, is_home, meant_by, mention, person_in, person_text}
use Rattle.reg_loader.specs.Plan.{GroupStands, Key, added, created, is_added, is_among, is_composite_target, is_forbidden, is_new, is_too_many, job_groups, key_of, keyed, number, plan_of, plan_or, planned, removed, same_key, shown, group_name, standing, text_of, wanted}
use Rattle.reg_loader.specs.declared.plans.Plan.{Plan}
use Rattle.reg_loader.specs.declared.plans.PlanFault.{PlanFault}
use Rattle.reg_loader.specs.declared.plans.PlanFault.TheVariants.{IsComposite, Failsafe}
use Rattle.reg_loader.specs.declared.tables.TableRow.{TableRow}
use Rattle.reg_loader.specs.Walks.{Knows}
use Rattle.reg_loader.proofs.Children.{resolve_child}
use Rattle.reg_loader.proofs.Lists.{all_each, all_map, all_mapped, all_once, all_passed, any_insert, any_put}
use Rattle.reg_loader.proofs.Named.{group_has_name}
use Rattle.reg_service.proofs.LoadKeys.{all_filtered, all_true, get_first, id_first, id_stands, names_all, none_before, none_some, none_true, none_twice, once_all, once_filter, row_of, some_is, text_finds, untaken}
use Rattle.reg_service.proofs.LoadStanding.{IsIn, IsOf, all_groups, groups_once, standing_among, standing_in, standing_once}

-- ---- rows of keys that are told by names

-- a key is found by its names
record Shows (job : JobRow) (names : List (List ℕ)) (number : List ℕ → Option ℕ) (f : Lists) (key : Key) : Type 0 where
  group : load_group job number f (group_name names f key.0) ≡ Some key.0
  person : subject_id (text_of f key.1) f.subjects ≡ Some key.1

module _ (job : JobRow) (names : List (List ℕ)) (number : List ℕ → Option ℕ) (f : Lists) where
  none_missing : (keys : List Key) → AllByRecursion (λ (k : Key). Shows job names number f k) keys → first_missing job number f (map (shown names f) keys) ≡ None
  none_missing [] h = refl
  none_missing (key ∷ keys) h = rw (h.0.group, h.0.person) (none_missing keys h.1)

  rows_are : (keys : List Key) → AllByRecursion (λ (k : Key). Shows job names number f k) keys → map (load_row job number f) (map (shown names f) keys) ≡ map row_of keys
  rows_are [] h = refl
  rows_are (key ∷ keys) h = rw (h.0.group, h.0.person, rows_are keys h.1) refl

-- ---- groups of a job

standing_found : (job : JobRow) (names : List (List ℕ)) (number : List ℕ → Option ℕ) (f : Lists) (g : ℕ) → IsSound f → AreNamed f → IsOf job.target f g → load_group job number f (group_name names f g) ≡ Some g
standing_found job names number f g sound named is =
    let old : nat_lt f.made.groups g ≡ false = le-ltb _ _ (group_made f g sound is.stands) in
    let found : resolve (name_of (Group g) f) f ≡ Some (Group g) = named.finds (Group g) (group_has_name g f is.stands) in
    rw (old, found, is.of) refl

new_found : (job : JobRow) (names : List (List ℕ)) (f : Lists) (g : ℕ) (text : List ℕ) → list_any (bytes_eq text) names ≡ true → resolve text f ≡ None → f.made.groups + 1 + position_or_len (bytes_eq text) names ≡ g → load_group job (created_number names f) f (group_name names f g) ≡ Some g
new_found job names f g text known free is =
    let later : nat_lt f.made.groups g ≡ true = lt-ltb _ _ (omega (arith, is)) in
    let at : g - f.made.groups - 1 ≡ position_or_len (bytes_eq text) names = omega (arith, is) in
    let name : get_or names (g - f.made.groups - 1) [] ≡ text = ap (λ n. get_or names n []) at ∙ get_first names text known in
    rw (later, name, free) (id_first names (f.made.groups + 1) text known ∙ ap Some is)

-- a group's row tells its folder
row_home : (g d : ℕ) (f : Lists) (p : Placed) → place_of (Group g) (placed f) ≡ Some p → p.folder ≡ d → stands_in d (group_row g f.groups) ≡ true
row_home g d f p at home = elim (cases_option (group_row g f.groups)) [
  | inl none ↦ none_some p (group_none g f (sym none) ∙ at)
  | inr row ↦
      let is : Some (place_as (Group g) row.0.folder row.0.extension) ≡ Some p = group_some g row.0 f (sym row.1) ∙ at in
      rw row.1 (eq-eqb row.0.folder d (ap (λ (q : Placed). q.folder) (some_is (place_as (Group g) row.0.folder row.0.extension) p is) ∙ home))
]

-- a group that a record names is one of the job's, or one that is to be made
record IsMade (target : Object) (names : List (List ℕ)) (f : Lists) (text : List ℕ) (g : ℕ) : Type 0 where
  new : is_new (mention target text f) ≡ true
  free : resolve text f ≡ None
  is : f.made.groups + 1 + position_or_len (bytes_eq text) names ≡ g

home_is : (d : ℕ) (found : Option ℕ) → is_home d found ≡ true → found ≡ Some d
home_is d None h = cc h
home_is d (Some x) h = ap Some (eqb-true x d h)

-- a group that has a name in a folder is one of the folder's
in_folder : (d : ℕ) (text : List ℕ) (f : Lists) (x g : ℕ) → IsSound f → is_name text ≡ true → home_id text f ≡ Some d → resolve text f ≡ Some (Group x) → is_composite x f.composites ≡ false → x ≡ g → IsOf (Folder d) f g
in_folder d text f x g s form home e plain same =
    let found : child d (extension_of text) f ≡ Some (Group x) = sym (resolve_child text d f form home) ∙ e in
    let place = found_is d (extension_of text) (placed f) (Group x) (sound_once f s) found in
    subst (λ (n : ℕ). IsOf (Folder d) f n) same (record {
      stands = group_stands f text x s e;
      of = and_from (stands_in d (group_row x f.groups)) (not (is_composite x f.composites)) (row_home x d f place.0 place.1 place.2) (rw plain refl);
    })

number_cases : (target : Object) (names : List (List ℕ)) (text : List ℕ) (f : Lists) (g : ℕ) → IsSound f → GroupStands target f → number names (mention target text f) text f ≡ Some g → IsOf target f g ⊎ IsMade target names f text g
unfolding mention
number_cases (Group x) names text f g s there h =
    let same : x ≡ g = some_is x g h in
    inl (subst (λ (n : ℕ). IsOf (Group x) f n) same (record { stands = there; of = eq-eqb x x refl }))
number_cases (Folder d) names text f g s there h = elim (cases_Bool (is_name text)) [
  | inl t ↦ elim (cases_Bool (is_home d (home_id text f))) [
    | inl u ↦ by t u (resolve text f) refl (rw u at (rw t at h))
    | inr u ↦ let clash : None ≡ Some g = rw u at (rw t at h) in none_some g clash
  ]
  | inr t ↦ let clash : None ≡ Some g = rw t at h in none_some g clash
]
  where
    by : is_name text ≡ true → is_home d (home_id text f) ≡ true → (found : Option Object) → resolve text f ≡ found → number names (meant_by found f) text f ≡ Some g → IsOf (Folder d) f g ⊎ IsMade (Folder d) names f text g
    by t u None e k = inr (record { new = rw (t, u, e) refl; free = e; is = some_is (f.made.groups + 1 + position_or_len (bytes_eq text) names) g k })
    by t u (Some (Group x)) e k = elim (cases_Bool (is_composite x f.composites)) [
      | inl v ↦ let clash : None ≡ Some g = rw v at k in none_some g clash
      | inr v ↦ let same : Some x ≡ Some g = rw v at k in inl (in_folder d text f x g s t (home_is d (home_id text f) u) e v (some_is x g same))
    ]
    by t u (Some (Folder x)) e k = none_some g k
    by t u (Some (Def a)) e k = none_some g k
    by t u (Some (Attr a)) e k = none_some g k
    by t u (Some (Subject a)) e k = none_some g k
number_cases (Def a) names text f g s there h = none_some g h
number_cases (Attr a) names text f g s there h = none_some g h
number_cases (Subject x) names text f g s there h = none_some g h

-- a name that is to be made is free, and its folder is the job's
record IsFree (target : Object) (f : Lists) (text : List ℕ) : Type 0 where
  home : load.is_home target (home_id text f) ≡ true
  free : resolve text f ≡ None

mention_new : (target : Object) (text : List ℕ) (f : Lists) → is_new (mention target text f) ≡ true → IsFree target f text
unfolding mention
mention_new (Group x) text f h = cc h
mention_new (Folder d) text f h = elim (cases_Bool (is_name text)) [
  | inl t ↦ elim (cases_Bool (is_home d (home_id text f))) [
    | inl u ↦ by u (resolve text f) refl (rw u at (rw t at h))
    | inr u ↦ let clash : false ≡ true = rw u at (rw t at h) in cc clash
  ]
  | inr t ↦ let clash : false ≡ true = rw t at h in cc clash
]
  where
    by : is_home d (home_id text f) ≡ true → (found : Option Object) → resolve text f ≡ found → is_new (meant_by found f) ≡ true → IsFree (Folder d) f text
    by u None e k = record { home = rw (home_is d (home_id text f) u) (eq-eqb d d refl); free = e }
    by u (Some (Group x)) e k = elim (cases_Bool (is_composite x f.composites)) [
      | inl v ↦ let clash : false ≡ true = rw v at k in cc clash
      | inr v ↦ let clash : false ≡ true = rw v at k in cc clash
    ]
    by u (Some (Folder x)) e k = cc k
    by u (Some (Def a)) e k = cc k
    by u (Some (Attr a)) e k = cc k
    by u (Some (Subject a)) e k = cc k
mention_new (Def a) text f h = cc h
mention_new (Attr a) text f h = cc h
mention_new (Subject x) text f h = cc h

created_free : (target : Object) (rows : List TableRow) (f : Lists) → AllByRecursion (λ (name : List ℕ). IsFree target f name) (created target rows f)
created_free target rows f =
    let test : TableRow → Bool = λ row. is_new (mention target (group_text row) f) in
    all_once (λ (name : List ℕ). IsFree target f name) bytes_eq [] (map group_text (filter test rows)) tt
    (all_map (λ (name : List ℕ). IsFree target f name) group_text (filter test rows) (all_passed (λ (row : TableRow). IsFree target f (group_text row)) test rows (λ row new. mention_new target (group_text row) f new)))

-- ---- a name that a record has to make is among those that are made

fold_old : (test : List ℕ → Bool) (keys xs : List (List ℕ)) → list_any test keys ≡ true → list_any test (fold (insert_key bytes_eq) keys xs) ≡ true
fold_old test keys [] h = h
fold_old test keys (x ∷ xs) h = fold_old test (insert_key bytes_eq keys x) xs (any_insert bytes_eq test keys x h)

fold_new : (text : List ℕ) (keys xs : List (List ℕ)) → list_any (bytes_eq text) xs ≡ true → list_any (bytes_eq text) (fold (insert_key bytes_eq) keys xs) ≡ true
fold_new text keys [] h = cc h
fold_new text keys (x ∷ xs) h = elim (or_cases (bytes_eq text x) (list_any (bytes_eq text) xs) h) [
  | inl t ↦ fold_old (bytes_eq text) (insert_key bytes_eq keys x) xs (subst (λ (y : List ℕ). list_any (bytes_eq text) (insert_key bytes_eq keys y) ≡ true) (bytes_same text x t) (any_put bytes_eq keys text (bytes_self text)))
  | inr t ↦ fold_new text (insert_key bytes_eq keys x) xs t
]

each_listed : {R : Type 0} (test : R → Bool) (text : R → List ℕ) (rows : List R) → AllByRecursion (λ row. test row ≡ true → list_any (bytes_eq (text row)) (map text (filter test rows)) ≡ true) rows
each_listed test text [] = tt
each_listed {R} test text (row ∷ rows) = (
  λ t. rw t (or_left (bytes_eq (text row) (text row)) (list_any (bytes_eq (text row)) (map text (filter test rows))) (bytes_self (text row))),
  all_each (λ (r : R). test r ≡ true → list_any (bytes_eq (text r)) (map text (filter test rows)) ≡ true) (λ (r : R). test r ≡ true → list_any (bytes_eq (text r)) (map text (filter test (row ∷ rows))) ≡ true) rows (λ r h u. later r (h u)) (each_listed test text rows),
)
  where
    later : (r : R) → list_any (bytes_eq (text r)) (map text (filter test rows)) ≡ true → list_any (bytes_eq (text r)) (map text (filter test (row ∷ rows))) ≡ true
    later r h = elim (cases_Bool (test row)) [
      | inl t ↦ rw t (or_right (bytes_eq (text r) (text row)) (list_any (bytes_eq (text r)) (map text (filter test rows))) h)
      | inr t ↦ rw t h
    ]

all_known : (target : Object) (rows : List TableRow) (f : Lists) → AllByRecursion (Knows (created target rows f) target f) rows
all_known target rows f =
    let test : TableRow → Bool = λ row. is_new (mention target (group_text row) f) in
    all_each (λ (row : TableRow). test row ≡ true → list_any (bytes_eq (group_text row)) (map group_text (filter test rows)) ≡ true) (Knows (created target rows f) target f) rows (λ row h new. fold_new (group_text row) [] (map group_text (filter test rows)) (h new)) (each_listed test group_text rows)

-- ---- what a table wants

record Wants (job : JobRow) (names : List (List ℕ)) (f : Lists) (key : Key) : Type 0 where
  shows : Shows job names (created_number names f) f key
  known : is_among key (standing job.target f) ≡ false → stands f.rows (row_of key) ≡ false

person_shows : (f : Lists) (s : ℕ) → IsHeld f → has_subject s f.subjects ≡ true → subject_id (text_of f s) f.subjects ≡ Some s
person_shows f s held h = text_finds s f.subjects held.texts_once h

person_stands : (job : JobRow) (row : TableRow) (f : Lists) (s : ℕ) → person_in job row f ≡ Some s → has_subject s f.subjects ≡ true
unfolding person_in
person_stands job row f s h = elim (cases_Bool (is_person (person_text job row))) [
  | inl t ↦ id_stands (person_text job row) f.subjects s (rw t at h)
  | inr t ↦ let clash : None ≡ Some s = rw t at h in none_some s clash
]

keyed_parts : (n p : Option ℕ) (key : Key) → keyed n p ≡ Some key → (n ≡ Some key.0) × (p ≡ Some key.1)
keyed_parts None p key h = cc h
keyed_parts (Some g) None key h = cc h
keyed_parts (Some g) (Some s) key h = let same : (g, s) ≡ key = some_is (g, s) key h in (ap (λ (k : Key). Some k.0) same, ap (λ (k : Key). Some k.1) same)

-- a key by the number of its group
record IsNumbered (job : JobRow) (names : List (List ℕ)) (f : Lists) (key : Key) : Type 0 where
  found : load_group job (created_number names f) f (group_name names f key.0) ≡ Some key.0
  known : is_among key (standing job.target f) ≡ false → stands f.rows (row_of key) ≡ false

not_true : (b : Bool) → not b ≡ true → b ≡ false
not_true true h = cc h
not_true false h = refl

numbered : (job : JobRow) (names : List (List ℕ)) (f : Lists) (text : List ℕ) (key : Key) → IsSound f → AreNamed f → (is_new (mention job.target text f) ≡ true → list_any (bytes_eq text) names ≡ true) → IsOf job.target f key.0 ⊎ IsMade job.target names f text key.0 → IsNumbered job names f key
numbered job names f text key sound named known (inl is) = record {
  found = standing_found job names (created_number names f) f key.0 sound named is;
  known = λ out. elim (cases_Bool (stands f.rows (row_of key))) [
    | inl t ↦ let clash : false ≡ true = sym out ∙ standing_among key.0 key.1 job.target f is.of t in cc clash
    | inr t ↦ t
  ];
}
numbered job names f text key sound named known (inr is) = record {
  found = new_found job names f key.0 text (known is.new) is.free is.is;
  known = λ out. none_above f (row_of key) sound (omega (arith, is.is));
}

wanted_all : (job : JobRow) (rows : List TableRow) (f : Lists) → IsSound f → IsHeld f → AreNamed f → GroupStands job.target f → AllByRecursion (λ (key : Key). Wants job (created job.target rows f) f key) (wanted job rows f)
wanted_all job rows f sound held named there =
    let names = created job.target rows f in
    all_once (λ (key : Key). Wants job names f key) same_key [] (filter_map (key_of names job f) rows) tt
    (all_mapped (Knows names job.target f) (λ (key : Key). Wants job names f key) (key_of names job f) rows (λ row knows key is. by row knows key is) (all_known job.target rows f))
  where
    by : (row : TableRow) → Knows (created job.target rows f) job.target f row → (key : Key) → key_of (created job.target rows f) job f row ≡ Some key → Wants job (created job.target rows f) f key
    by row knows key is =
        let names = created job.target rows f in
        let parts = keyed_parts (number names (mention job.target (group_text row) f) (group_text row) f) (person_in job row f) key is in
        let n : IsNumbered job names f key = numbered job names f (group_text row) key sound named knows (number_cases job.target names (group_text row) f key.0 sound there parts.0) in
        record { shows = record { group = n.found; person = person_shows f key.1 held (person_stands job row f key.1 parts.1) }; known = n.known }

-- ---- the tests of a load

none_of : (checks : List load.LoadCheck) → AllByRecursion (λ (check : load.LoadCheck). check.0 ≡ false) checks → first_fault checks ≡ None
none_of [] h = refl
none_of (check ∷ checks) h = rw h.0 (none_of checks h.1)

same_composite : (target : Object) (f : Lists) → is_composite_target target f ≡ load.is_composite_target target f
same_composite (Folder d) f = refl
same_composite (Group g) f = refl
same_composite (Def a) f = refl
same_composite (Attr a) f = refl
same_composite (Subject x) f = refl

module _ (L : Live) (job : JobRow) (rows : List TableRow) (f : Lists) (sound : IsSound f) (held : IsHeld f) (named : AreNamed f) (there : GroupStands job.target f) where
  abbrev pub names : List (List ℕ)
  names = created job.target rows f

  abbrev pub coming : List Key
  coming = added L (standing job.target f) f (wanted job rows f)

  abbrev going : List Key
  going = removed (standing job.target f) (wanted job rows f)

  coming_all : AllByRecursion (λ (key : Key). Wants job names f key × (is_added L (standing job.target f) f key ≡ true)) coming
  coming_all = all_filtered (λ (key : Key). Wants job names f key) (is_added L (standing job.target f) f) (wanted job rows f) (wanted_all job rows f sound held named there)

  coming_shows : AllByRecursion (λ (key : Key). Shows job names (created_number names f) f key) coming
  coming_shows = all_each (λ (key : Key). Wants job names f key × (is_added L (standing job.target f) f key ≡ true)) (λ (key : Key). Shows job names (created_number names f) f key) coming (λ key h. h.0.shows) coming_all

  pub coming_are : added_rows job names f (map (shown names f) coming) ≡ map row_of coming
  coming_are = rows_are job names (created_number names f) f coming coming_shows

  going_all : AllByRecursion (λ (key : Key). IsIn job.target f key) going
  going_all = all_filter (λ (key : Key). IsIn job.target f key) (λ (key : Key). not (is_among key (wanted job rows f))) (standing job.target f) (standing_in job.target f (job_groups job.target f) sound (all_groups job.target f sound there))

  going_shows : AllByRecursion (λ (key : Key). Shows job names no_number f key) going
  going_shows = all_each (λ (key : Key). IsIn job.target f key) (λ (key : Key). Shows job names no_number f key) going (λ key h. record { group = standing_found job names no_number f key.0 sound named h.group; person = person_shows f key.1 held h.person }) going_all

  going_are : removed_rows job f (map (shown names f) going) ≡ map row_of going
  going_are = rows_are job names no_number f going going_shows

  none_elsewhere : is_elsewhere job f names ≡ false
  none_elsewhere = ap not (all_true (λ (name : List ℕ). load.is_home job.target (home_id name f)) names (all_each (λ (name : List ℕ). IsFree job.target f name) (λ (name : List ℕ). load.is_home job.target (home_id name f) ≡ true) names (λ name h. h.home) (created_free job.target rows f)))

  none_taken : first_taken [] f names ≡ None
  none_taken = untaken [] f names (all_each (λ (name : List ℕ). IsFree job.target f name) (λ (name : List ℕ). resolve name f ≡ None) names (λ name h. h.free) (created_free job.target rows f))
      (names_all [] (map group_text (filter (λ (row : TableRow). is_new (mention job.target (group_text row) f)) rows)) tt) (none_before names)

  none_already : already f.rows (added_rows job names f (map (shown names f) coming)) ≡ false
  none_already =
      let new : list_any (stands f.rows) (map row_of coming) ≡ false = none_true (stands f.rows) (map row_of coming) (all_map (λ (row : PersonRow). stands f.rows row ≡ false) row_of coming
      (all_each (λ (key : Key). Wants job names f key × (is_added L (standing job.target f) f key ≡ true)) (λ (key : Key). stands f.rows (row_of key) ≡ false) coming
      (λ key h. h.0.known (not_true (is_among key (standing job.target f)) (and_parts (not (is_among key (standing job.target f))) (not (is_forbidden L f key)) h.1).0)) coming_all)) in
      let once : comes_twice (map row_of coming) ≡ false = none_twice coming (once_filter (is_added L (standing job.target f) f) (wanted job rows f) (once_all [] (filter_map (key_of names job f) rows) tt)) in
      ap (already f.rows) coming_are ∙ rw (new, once) refl

  all_such : no_such f.rows (removed_rows job f (map (shown names f) going)) ≡ false
  all_such =
      let stand : list_all (stands f.rows) (map row_of going) ≡ true = all_true (stands f.rows) (map row_of going) (all_map (λ (row : PersonRow). stands f.rows row ≡ true) row_of going
      (all_each (λ (key : Key). IsIn job.target f key) (λ (key : Key). stands f.rows (row_of key) ≡ true) going (λ key h. h.row) going_all)) in
      let once : comes_twice (map row_of going) ≡ false = none_twice going (once_filter (λ (key : Key). not (is_among key (wanted job rows f))) (standing job.target f) (standing_once f (job_groups job.target f) sound (groups_once job.target f sound))) in
      ap (no_such f.rows) going_are ∙ rw (stand, once) refl

  pub checks_pass : is_composite_target job.target f ≡ false → first_fault (load_checks job names (map (shown names f) going) (map (shown names f) coming) f) ≡ None
  unfolding load_checks
  checks_pass plain = none_of (load_checks job names (map (shown names f) going) (map (shown names f) coming) f) (
    ap is_some (none_missing job names (created_number names f) f coming coming_shows),
    (none_elsewhere, (ap is_some none_taken, (none_already, (rw (none_missing job names no_number f going going_shows, all_such) refl, (sym (same_composite job.target f) ∙ plain, tt))))),
  )

  -- no rule forbids what comes
  pub coming_free : AllByRecursion (λ (key : Key). is_forbidden L f key ≡ false) coming
  coming_free = all_each (λ (key : Key). Wants job names f key × (is_added L (standing job.target f) f key ≡ true)) (λ (key : Key). is_forbidden L f key ≡ false) coming
      (λ key h. not_true (is_forbidden L f key) (and_parts (not (is_among key (standing job.target f))) (not (is_forbidden L f key)) h.1).1) coming_all

pub planned_is : (L : Live) (job : JobRow) (rows : List TableRow) (f : Lists) (p : Plan) → planned L job rows f ≡ Ok p → (is_composite_target job.target f ≡ false) × (plan_of L job rows f ≡ p)
unfolding planned
planned_is L job rows f p h = elim (cases_Bool (is_composite_target job.target f)) [
  | inl t ↦ let clash : ◌≡◌ {A = Result Plan PlanFault} (Err IsComposite) (Ok p) = rw t at h in cc clash
  | inr t ↦
      let before : ℕ = length (standing job.target f) in
      let removes : ℕ = length (removed (standing job.target f) (wanted job rows f)) in
      let inside : plan_or before removes job (plan_of L job rows f) ≡ Ok p = rw t at h in (
        t,
        elim (cases_Bool (is_too_many job before removes)) [
          | inl u ↦ let clash : ◌≡◌ {A = Result Plan PlanFault} (Err (Failsafe before removes)) (Ok p) = rw u at inside in cc clash
          | inr u ↦ let same : ◌≡◌ {A = Result Plan PlanFault} (Ok (plan_of L job rows f)) (Ok p) = rw u at inside in ok_is (plan_of L job rows f) p same
        ],
      )
]
  where
    ok_is : (a b : Plan) → ◌≡◌ {A = Result Plan PlanFault} (Ok a) (Ok b) → a ≡ b
    ok_is a b h = cc
