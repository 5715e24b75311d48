-- Groups that stand have names, and what a plan tells of has them.
use Rattle.std.proofs.Common.{◌≡◌, ◌≤◌, ◌+◌, ◌==◌, ℕ, Bool, true, false, List, [], ◌∷◌, map, length, Option, Some, None, refl, sym, ap, subst, ◌∙◌, arith, codes, inl, inr, filter, not, ◌&&◌, if◌then◌else◌}
use Rattle.std.specs.Prelude.{⊤, nat_lt, nat_le}
use Rattle.std.specs.List.{list_any, list_all, filter_map, flat_map, position_or_len, AllByRecursion}
use Rattle.std.specs.Str.{bytes_eq}
use Rattle.std.proofs.lemmas.Bool.{and_from, cases_Bool, or_cases, or_left, or_right, eqb-true, eq-eqb, le-leb, lt-ltb, le-ltb}
use Rattle.reg_base.specs.Names.{extensions_of, is_extension, is_name}
use Rattle.reg_terms.specs.declared.kinds.Object.{Object}
use Rattle.reg_terms.specs.declared.kinds.Object.TheVariants.{Folder, Group, Def, Attr, Subject}
use Rattle.reg_terms.specs.declared.kinds.Member.{Member}
use Rattle.reg_terms.specs.declared.kinds.Member.TheVariants as member
use Rattle.reg_terms.specs.declared.rows.GroupRow.{GroupRow}
use Rattle.reg_terms.specs.declared.rows.JobRow.{JobRow}
use Rattle.reg_terms.specs.declared.rows.MemberRow.{MemberRow}
use Rattle.reg_terms.specs.Kinds.{as_group, same_object}
use Rattle.reg_terms.specs.Rows.{is_composite}
use Rattle.reg_facts.specs.Lists.{Lists, root}
use Rattle.reg_facts.specs.Named.{AreNamed}
use Rattle.reg_facts.specs.Naming.{Placed, found_in, home_id, is_there, name_of, place_of, placed, resolve, step, walk}
use Rattle.reg_facts.specs.RowOrder.{rows_of}
use Rattle.reg_facts.specs.Rows.{group_row}
use Rattle.reg_facts.specs.Sound.{AscendFrom, IsSound, has_group, is_named}
use Rattle.reg_facts.proofs.Noted.{as_group_is, ascend_top}
use Rattle.reg_facts.proofs.PlacedRows.{group_none, group_some}
use Rattle.reg_facts.proofs.Places.{all_filter, all_places, cases_option, place_is, there_is}
use Rattle.reg_facts.proofs.Resolving.{any_is, any_place}
use Rattle.reg_loader.specs.declared.mentions.Mention.{Mention}
use Rattle.reg_loader.specs.declared.mentions.Mention.TheVariants.{Bad, Standing, New}
use Rattle.reg_loader.specs.declared.tables.TableRow.{TableRow}
use Rattle.reg_loader.specs.Mentions.{group_text, is_home, listed_group, meant_by, mention, person_in}
use Rattle.reg_loader.specs.Plan.{GroupStands, Key, created, is_new, job_groups, key_of, keyed, named, number, person_key, persons_in, same_key, standing, wanted}
use Rattle.reg_loader.specs.Walks.{AreTold, IsTold, Knows}
use Rattle.reg_loader.proofs.Lists.{all_each, all_joined, all_map, all_mapped, all_once, all_passed, place_within}

-- ---- a group that stands has a name

row_of_group : (g : ℕ) (gs : List GroupRow) → has_group g gs ≡ true → (row : GroupRow) × (group_row g gs ≡ Some row)
row_of_group g [] h = cc h
row_of_group g (r ∷ gs) h = elim (cases_Bool (r.id == g)) [
  | inl t ↦ (r, rw t refl)
  | inr t ↦ let more = row_of_group g gs (rw t at h) in (more.0, rw t more.1)
]

group_placed : (g : ℕ) (f : Lists) → has_group g f.groups ≡ true → (p : Placed) × (place_of (Group g) (placed f) ≡ Some p)
group_placed g f h = let r = row_of_group g f.groups h in (_, sym (group_some g r.0 f (sym r.1)))

pub group_has_name : (g : ℕ) (f : Lists) → has_group g f.groups ≡ true → is_named (Group g) f ≡ true
group_has_name g f h =
    let p = group_placed g f h in
    or_right (same_object (Group g) (Folder root)) (list_any (λ (q : Placed). same_object q.object (Group g)) (placed f)) (any_place (Group g) (placed f) p.0 p.1)

found_group : (g : ℕ) (gs : List GroupRow) (row : GroupRow) → group_row g gs ≡ Some row → has_group g gs ≡ true
found_group g [] row h = cc h
found_group g (r ∷ gs) row h = elim (cases_Bool (r.id == g)) [
  | inl t ↦ or_left (r.id == g) (has_group g gs) t
  | inr t ↦ or_right (r.id == g) (has_group g gs) (found_group g gs row (rw t at h))
]

-- and one that has a name stands
named_stands : (g : ℕ) (f : Lists) → is_named (Group g) f ≡ true → has_group g f.groups ≡ true
named_stands g f h =
    let place = any_is (Group g) (placed f) h in
    elim (cases_option (group_row g f.groups)) [
      | inl none ↦ absurd (let nowhere : None ≡ place_of (Group g) (placed f) = group_none g f (sym none) in let some = place.1 in let clash : ⊥ = cc in clash)
      | inr row ↦ found_group g f.groups row.0 row.1
    ]

-- what is found by a text stands
resolved_stands : (text : List ℕ) (g : ℕ) (f : Lists) → AreNamed f → resolve text f ≡ Some (Group g) → has_group g f.groups ≡ true
resolved_stands text g f n h = named_stands g f (n.found text (Group g) h).1

walk_none : (es : List (List ℕ)) (f : Lists) → walk None es f ≡ None
walk_none [] f = refl
walk_none (e ∷ es) f = walk_none es f

found_form : (d : ℕ) (e : List ℕ) (ps : List Placed) (o : Object) → AllByRecursion (λ (p : Placed). is_extension p.extension ≡ true) ps → found_in d e ps ≡ Some o → is_extension e ≡ true
found_form d e [] o all h = cc h
found_form d e (p ∷ ps) o all h = elim (cases_Bool (is_there d e p)) [
  | inl t ↦ subst (λ x. is_extension x ≡ true) (there_is d e p t).1 all.0
  | inr t ↦ found_form d e ps o all.1 (rw t at h)
]

module _ (f : Lists) (forms : AllByRecursion (λ (p : Placed). is_extension p.extension ≡ true) (placed f)) where
  step_form : (found : Option Object) (e : List ℕ) (o : Object) → step found e f ≡ Some o → is_extension e ≡ true
  step_form None e o h = cc h
  step_form (Some (Folder d)) e o h = found_form d e (placed f) o forms h
  step_form (Some (Group g)) e o h = cc h
  step_form (Some (Def a)) e o h = cc h
  step_form (Some (Attr a)) e o h = cc h
  step_form (Some (Subject s)) e o h = cc h

  walk_forms : (es : List (List ℕ)) (found : Option Object) (o : Object) → walk found es f ≡ Some o → list_all is_extension es ≡ true
  walk_forms [] found o h = refl
  walk_forms (e ∷ es) found o h = and_from (is_extension e) (list_all is_extension es) (by (step found e f) refl h) (walk_forms es (step found e f) o h)
    where
      by : (next : Option Object) → step found e f ≡ next → walk next es f ≡ Some o → is_extension e ≡ true
      by None is there = let clash : None ≡ Some o = sym (walk_none es f) ∙ there in cc clash
      by (Some x) is there = step_form found e x is

  resolved_forms : (text : List ℕ) (g : ℕ) → resolve text f ≡ Some (Group g) → list_all is_extension (extensions_of text) ≡ true
  unfolding resolve
  resolved_forms text g h = elim (cases_Bool (bytes_eq text (codes ":"))) [
    | inl t ↦ let clash : Some (Folder root) ≡ Some (Group g) = rw t at h in cc clash
    | inr t ↦ walk_forms (extensions_of text) (Some (Folder root)) (Group g) (rw t at h)
  ]

-- and that is a name
group_name_form : (g : ℕ) (f : Lists) → IsSound f → AreNamed f → has_group g f.groups ≡ true → is_name (name_of (Group g) f) ≡ true
group_name_form g f s n h =
    let p = group_placed g f h in
    let name = name_of (Group g) f in
    let fits = all_places (λ (q : Placed). length (name_of q.object f) ≤ 1000) (placed f) s.fits (Group g) p.0 p.1 in
    let short : length name ≤ 1000 = subst (λ (o : Object). length (name_of o f) ≤ 1000) (place_is (Group g) (placed f) p.0 p.1) fits in
    and_from (nat_le (length name) 1000) (list_all is_extension (extensions_of name)) (le-leb (length name) 1000 short) (resolved_forms f s.forms name g (n.finds (Group g) (group_has_name g f h)))

pub named_form : (g : ℕ) (f : Lists) → IsSound f → AreNamed f → is_named (Group g) f ≡ true → is_name (name_of (Group g) f) ≡ true
named_form g f s n h = group_name_form g f s n (named_stands g f h)

-- ---- what a plan tells of

-- the ids of groups that stand were given
group_made : (floor top g : ℕ) (gs : List GroupRow) → AscendFrom floor top (map (λ (r : GroupRow). r.id) gs) → has_group g gs ≡ true → g ≤ top
group_made floor top g [] a h = cc h
group_made floor top g (row ∷ gs) a h = elim (or_cases (row.id == g) (has_group g gs) h) [
  | inl t ↦ subst (λ n. n ≤ top) (eqb-true row.id g t) (ascend_top row.id top (map (λ (r : GroupRow). r.id) gs) a.1)
  | inr t ↦ group_made row.id top g gs a.1 t
]

pub told_group : (names : List (List ℕ)) (f : Lists) (g : ℕ) → IsSound f → has_group g f.groups ≡ true → IsTold names f g
told_group names f g s h =
    let old : nat_lt f.made.groups g ≡ false = le-ltb _ _ (group_made 0 f.made.groups g f.groups s.groups h) in
    rw old (group_has_name g f h)

-- what a record names as standing stands
listed_is : (found : Option ℕ) (f : Lists) (g : ℕ) → listed_group found f ≡ Standing g → found ≡ Some g
listed_is None f g h = cc h
listed_is (Some x) f g h = elim (cases_Bool (is_composite x f.composites)) [
  | inl t ↦ let clash : Bad ≡ Standing g = rw t at h in cc clash
  | inr t ↦ let same : Standing x ≡ Standing g = rw t at h in cc same
]

meant_is : (found : Option Object) (f : Lists) (g : ℕ) → meant_by found f ≡ Standing g → found ≡ Some (Group g)
meant_is None f g h = cc h
meant_is (Some o) f g h = as_group_is (Some o) g (listed_is (as_group (Some o)) f g h)

mention_stands : (target : Object) (text : List ℕ) (f : Lists) (g : ℕ) → IsSound f → AreNamed f → GroupStands target f → mention target text f ≡ Standing g → has_group g f.groups ≡ true
unfolding mention
mention_stands (Group x) text f g s n named h = let same : x ≡ g = cc h in rw (← same) named
mention_stands (Folder d) text f g s n named h = elim (cases_Bool (is_name text)) [
  | inl t ↦
      let inside : (if is_home d (home_id text f) then meant_by (resolve text f) f else Bad) ≡ Standing g = rw t at h in
      elim (cases_Bool (is_home d (home_id text f))) [
        | inl u ↦ resolved_stands text g f n (meant_is (resolve text f) f g (rw u at inside))
        | inr u ↦ let clash : Bad ≡ Standing g = rw u at inside in cc clash
      ]
  | inr t ↦ let clash : Bad ≡ Standing g = rw t at h in cc clash
]
mention_stands (Def a) text f g s n named h = cc h
mention_stands (Attr a) text f g s n named h = cc h
mention_stands (Subject x) text f g s n named h = cc h

-- a number that is told
number_told : (names : List (List ℕ)) (m : Mention) (text : List ℕ) (f : Lists) (g : ℕ) → IsSound f → ((x : ℕ) → m ≡ Standing x → has_group x f.groups ≡ true) → (is_new m ≡ true → list_any (bytes_eq text) names ≡ true)
    → number names m text f ≡ Some g → IsTold names f g
number_told names Bad text f g s stands known h = cc h
number_told names (Standing x) text f g s stands known h = let same : x ≡ g = cc h in rw (← same) (told_group names f x s (stands x refl))
number_told names New text f g s stands known h =
    let place = position_or_len (bytes_eq text) names in
    let same : f.made.groups + 1 + place ≡ g = cc h in
    let inside = place_within (bytes_eq text) names (known refl) in
    let later : nat_lt f.made.groups (f.made.groups + 1 + place) ≡ true = lt-ltb _ _ (omega arith) in
    subst (λ n. IsTold names f n) same (rw later (omega arith))

keyed_is : (number person : Option ℕ) (key : Key) → keyed number person ≡ Some key → number ≡ Some key.0
keyed_is None person key h = cc h
keyed_is (Some g) None key h = cc h
keyed_is (Some g) (Some s) key h = let same : (g, s) ≡ key = cc h in ap (λ (k : Key). Some k.0) same

pub wanted_told : (job : JobRow) (rows : List TableRow) (f : Lists) → IsSound f → AreNamed f → GroupStands job.target f → AllByRecursion (Knows (created job.target rows f) job.target f) rows → AreTold (created job.target rows f) f (wanted job rows f)
wanted_told job rows f s n named known =
    let names = created job.target rows f in
    all_once (λ (key : Key). IsTold names f key.0) same_key [] (filter_map (key_of names job f) rows) tt
    (all_mapped (Knows names job.target f) (λ (key : Key). IsTold names f key.0) (key_of names job f) rows
    (λ row knows key is. number_told names (mention job.target (group_text row) f) (group_text row) f key.0 s (λ x at. mention_stands job.target (group_text row) f x s n named at) knows (keyed_is _ (person_in job row f) key is)) known)

-- ---- those that stand

person_key_is : (g : ℕ) (row : MemberRow) (key : Key) → person_key g row ≡ Some key → key.0 ≡ g
person_key_is g row key h = by row.member h
  where
    by : (m : Member) → (elim m [ member.Person s ↦ Some (g, s) | member.Group x ↦ None ]) ≡ Some key → key.0 ≡ g
    by (member.Person s) e = let same : (g, s) ≡ key = cc e in sym (ap (λ (k : Key). k.0) same)
    by (member.Group x) e = cc e

persons_told : (names : List (List ℕ)) (f : Lists) (g : ℕ) → IsTold names f g → (rows : List MemberRow) → AreTold names f (filter_map (person_key g) rows)
persons_told names f g told [] = tt
persons_told names f g told (row ∷ rows) = all_mapped (λ (r : MemberRow). ⊤) (λ (key : Key). IsTold names f key.0) (person_key g) (row ∷ rows) (λ r _ key is. subst (λ n. IsTold names f n) (sym (person_key_is g r key is)) told) (all_any (row ∷ rows))
  where
    all_any : (rs : List MemberRow) → AllByRecursion (λ (r : MemberRow). ⊤) rs
    all_any [] = tt
    all_any (r ∷ rs) = (tt, all_any rs)

all_persons : (names : List (List ℕ)) (f : Lists) (gs : List ℕ) → AllByRecursion (λ g. IsTold names f g) gs → AreTold names f (flat_map (persons_in f) gs)
all_persons names f [] told = tt
all_persons names f (g ∷ gs) told = all_joined (λ (key : Key). IsTold names f key.0) (persons_in f g) (flat_map (persons_in f) gs) (persons_told names f g told.0 (rows_of g f.rows)) (all_persons names f gs told.1)

-- each of some groups is among them
groups_each : (gs : List GroupRow) → AllByRecursion (λ (r : GroupRow). has_group r.id gs ≡ true) gs
groups_each [] = tt
groups_each (r ∷ gs) = (
  or_left (r.id == r.id) (has_group r.id gs) (eq-eqb r.id r.id refl),
  all_each (λ (x : GroupRow). has_group x.id gs ≡ true) (λ (x : GroupRow). has_group x.id (r ∷ gs) ≡ true) gs (λ x h. or_right (r.id == x.id) (has_group x.id gs) h) (groups_each gs),
)

ids_told : (names : List (List ℕ)) (f : Lists) (rows : List GroupRow) → IsSound f → AllByRecursion (λ (r : GroupRow). has_group r.id f.groups ≡ true) rows → AllByRecursion (λ g. IsTold names f g) (map (λ (r : GroupRow). r.id) rows)
ids_told names f [] s h = tt
ids_told names f (r ∷ rows) s h = (told_group names f r.id s h.0, ids_told names f rows s h.1)

groups_told : (names : List (List ℕ)) (target : Object) (f : Lists) → IsSound f → AreNamed f → GroupStands target f → AllByRecursion (λ g. IsTold names f g) (job_groups target f)
groups_told names (Group g) f s n named = (told_group names f g s named, tt)
groups_told names (Folder d) f s n named = ids_told names f _ s (all_filter (λ (r : GroupRow). has_group r.id f.groups ≡ true) (λ (r : GroupRow). (r.folder == d) && not (is_composite r.id f.composites)) f.groups (groups_each f.groups))
groups_told names (Def a) f s n named = tt
groups_told names (Attr a) f s n named = tt
groups_told names (Subject x) f s n named = tt

pub standing_told : (names : List (List ℕ)) (target : Object) (f : Lists) → IsSound f → AreNamed f → GroupStands target f → AreTold names f (standing target f)
standing_told names target f s n named = all_persons names f (job_groups target f) (groups_told names target f s n named)

-- ---- the names that are made

new_form : (target : Object) (text : List ℕ) (f : Lists) → is_new (mention target text f) ≡ true → is_name text ≡ true
unfolding mention
new_form (Group g) text f h = cc h
new_form (Folder d) text f h = elim (cases_Bool (is_name text)) [
  | inl t ↦ t
  | inr t ↦ let clash : false ≡ true = rw t at h in cc clash
]
new_form (Def a) text f h = cc h
new_form (Attr a) text f h = cc h
new_form (Subject s) text f h = cc h

pub created_form : (target : Object) (rows : List TableRow) (f : Lists) → AllByRecursion (λ (name : List ℕ). is_name name ≡ true) (created target rows f)
created_form target rows f =
    let test : TableRow → Bool = λ row. is_new (mention target (group_text row) f) in
    all_once (λ (name : List ℕ). is_name name ≡ true) bytes_eq [] (map group_text (filter test rows)) tt
    (all_map (λ (name : List ℕ). is_name name ≡ true) group_text (filter test rows) (all_passed (λ (row : TableRow). is_name (group_text row) ≡ true) test rows (λ row new. new_form target (group_text row) f new)))
