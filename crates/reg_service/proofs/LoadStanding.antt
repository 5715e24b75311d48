-- The groups of a job, and who is in them: each key once, and all that stand.
use Rattle.std.proofs.Common.{◌≡◌, ◌<◌, ◌==◌, ◌&&◌, ◌∙◌, ◌⊎◌, ℕ, List, [], ◌∷◌, Bool, true, false, not, Option, None, Some, map, filter, refl, sym, ap, subst, arith, inl, inr}
use Rattle.std.specs.Prelude.{⊤}
use Rattle.std.specs.BTreeSet as ordered
use Rattle.std.specs.Cmp.{IsTotalOrder, nat_cmp_total, on_total, then_total}
use Rattle.std.specs.List.{AllByRecursion, cons_option, filter_map, flat_map, list_any}
use Rattle.std.specs.List.Sorted.{IsStrictlySortedBy}
use Rattle.std.specs.Ordering.{match_ordering}
use Rattle.std.specs.declared.cmp.Ordering.{Ordering}
use Rattle.std.specs.declared.cmp.Ordering.TheVariants.{Less, Equal, Greater}
use Rattle.std.proofs.lemmas.Bool.{and_from, and_parts, cases_Bool, eq-eqb, eqb-true, or_cases, or_left, or_right}
use Rattle.std.proofs.lemmas.Bool.Decides.{nat_tests}
use Rattle.std.proofs.lemmas.Grind.{common_steps}
use Rattle.std.proofs.lemmas.List.Folds.{list_any-append}
use Rattle.reg_terms.specs.Kinds.{same_member}
use Rattle.reg_terms.specs.Rows.{has_row, is_composite, is_row}
use Rattle.reg_terms.specs.declared.kinds.Member.{Member}
use Rattle.reg_terms.specs.declared.kinds.Member.TheVariants as member
use Rattle.reg_terms.specs.declared.kinds.Object.{Object}
use Rattle.reg_terms.specs.declared.kinds.Object.TheVariants.{Folder, Group, Def, Attr, Subject}
use Rattle.reg_terms.specs.declared.rows.GroupRow.{GroupRow}
use Rattle.reg_terms.specs.declared.rows.MemberRow.{MemberRow}
use Rattle.reg_facts.specs.Lists.{Lists}
use Rattle.reg_facts.specs.RowOrder as order
use Rattle.reg_facts.specs.RowOrder.{place_cmp, row_order, rows_into, rows_of}
use Rattle.reg_facts.specs.Rows.{group_row}
use Rattle.reg_facts.specs.Sound.{AscendFrom, IsKnown, IsSound, has_group, has_subject}
use Rattle.reg_load.specs.LoadChecks.{is_of_target, stands_in}
use Rattle.reg_loader.specs.Plan.{GroupStands, Key, is_among, job_groups, person_key, persons_in, same_key, standing}
use Rattle.reg_loader.proofs.Lists.{all_each, all_joined, all_mapped, same_key_is, same_key_self}
use Rattle.reg_priv.proofs.Ordering.{put_sorted}
use Rattle.reg_service.proofs.LoadKeys.{Once, all_filtered, apart, apart_from, none_some, once_joined, some_is}

-- ---- the groups of a job

-- a group stands and is one of the job's
pub record IsOf (target : Object) (f : Lists) (g : ℕ) : Type 0 where
  pub stands : has_group g f.groups ≡ true
  pub of : is_of_target target g f ≡ true

row_there : (g : ℕ) (gs : List GroupRow) (row : GroupRow) → group_row g gs ≡ Some row → has_group g gs ≡ true
row_there g [] row h = cc h
row_there g (r ∷ gs) row h = elim (cases_Bool (r.id == g)) [
  | inl t ↦ or_left (r.id == g) (has_group g gs) t
  | inr t ↦ or_right (r.id == g) (has_group g gs) (row_there g gs row (rw t at h))
]

ids_above : (floor top : ℕ) (gs : List GroupRow) → AscendFrom floor top (map (λ (r : GroupRow). r.id) gs) → AllByRecursion (λ (r : GroupRow). floor < r.id) gs
ids_above floor top [] up = tt
ids_above floor top (r ∷ gs) up = (up.0, all_each (λ (x : GroupRow). r.id < x.id) (λ (x : GroupRow). floor < x.id) gs (λ x h. omega (arith, up.0, h)) (ids_above r.id top gs up.1))

own_rows : (floor top : ℕ) (gs : List GroupRow) → AscendFrom floor top (map (λ (r : GroupRow). r.id) gs) → AllByRecursion (λ (r : GroupRow). group_row r.id gs ≡ Some r) gs
own_rows floor top [] up = tt
own_rows floor top (r ∷ gs) up = (rw (eq-eqb r.id r.id refl) refl, later gs (ids_above r.id top gs up.1) (own_rows r.id top gs up.1))
  where
    later : (rows : List GroupRow) → AllByRecursion (λ (x : GroupRow). r.id < x.id) rows → AllByRecursion (λ (x : GroupRow). group_row x.id gs ≡ Some x) rows → AllByRecursion (λ (x : GroupRow). group_row x.id (r ∷ gs) ≡ Some x) rows
    later [] a b = tt
    later (x ∷ rows) a b = (rw (apart x.id r.id a.0) b.0, later rows a.1 b.1)

-- whether a group stands directly in a folder and is no composite
abbrev is_plain_in : ℕ → Lists → GroupRow → Bool
is_plain_in d f row = (row.folder == d) && not (is_composite row.id f.composites)

folder_groups : (d : ℕ) (f : Lists) (rows : List GroupRow) → AllByRecursion (λ (r : GroupRow). group_row r.id f.groups ≡ Some r) rows → AllByRecursion (λ g. IsOf (Folder d) f g) (map (λ (r : GroupRow). r.id) (filter (is_plain_in d f) rows))
folder_groups d f [] own = tt
folder_groups d f (r ∷ rows) own = elim (cases_Bool (is_plain_in d f r)) [
  | inl t ↦ rw t (record { stands = row_there r.id f.groups r own.0; of = rw own.0 t }, folder_groups d f rows own.1)
  | inr t ↦ rw t (folder_groups d f rows own.1)
]

pub all_groups : (target : Object) (f : Lists) → IsSound f → GroupStands target f → AllByRecursion (λ g. IsOf target f g) (job_groups target f)
all_groups (Group g) f s there = (record { stands = there; of = eq-eqb g g refl }, tt)
all_groups (Folder d) f s there = folder_groups d f f.groups (own_rows 0 f.made.groups f.groups s.groups)
all_groups (Def a) f s there = tt
all_groups (Attr a) f s there = tt
all_groups (Subject x) f s there = tt

found_plain : (d : ℕ) (f : Lists) (g : ℕ) (gs : List GroupRow) → (stands_in d (group_row g gs) && not (is_composite g f.composites)) ≡ true → list_any (λ h. h == g) (map (λ (r : GroupRow). r.id) (filter (is_plain_in d f) gs)) ≡ true
found_plain d f g [] h = cc h
found_plain d f g (r ∷ gs) h = elim (cases_Bool (r.id == g)) [
  | inl t ↦
      let same : r.id ≡ g = eqb-true r.id g t in
      let here : ((r.folder == d) && not (is_composite g f.composites)) ≡ true = rw t at h in
      let passes : is_plain_in d f r ≡ true = subst (λ (x : ℕ). ((r.folder == d) && not (is_composite x f.composites)) ≡ true) (sym same) here in
      rw passes (or_left (r.id == g) (list_any (λ h. h == g) (map (λ (x : GroupRow). x.id) (filter (is_plain_in d f) gs))) t)
  | inr t ↦
      let more : list_any (λ h. h == g) (map (λ (x : GroupRow). x.id) (filter (is_plain_in d f) gs)) ≡ true = found_plain d f g gs (rw t at h) in
      elim (cases_Bool (is_plain_in d f r)) [
        | inl u ↦ rw u (or_right (r.id == g) (list_any (λ h. h == g) (map (λ (x : GroupRow). x.id) (filter (is_plain_in d f) gs))) more)
        | inr u ↦ rw u more
      ]
]

one_of_groups : (target : Object) (f : Lists) (g : ℕ) → is_of_target target g f ≡ true → list_any (λ h. h == g) (job_groups target f) ≡ true
one_of_groups (Group t) f g h = or_left (t == g) false (eq-eqb t g (sym (eqb-true g t h)))
one_of_groups (Folder d) f g h = found_plain d f g f.groups h
one_of_groups (Def a) f g h = cc h
one_of_groups (Attr a) f g h = cc h
one_of_groups (Subject x) f g h = cc h

-- each group of a job once
abbrev GroupsOnce : List ℕ → Type 0
GroupsOnce [] = ⊤
GroupsOnce (g ∷ gs) = AllByRecursion (λ h. (g == h) ≡ false) gs × GroupsOnce gs

folder_once : (d : ℕ) (f : Lists) (floor top : ℕ) (gs : List GroupRow) → AscendFrom floor top (map (λ (r : GroupRow). r.id) gs) → GroupsOnce (map (λ (r : GroupRow). r.id) (filter (is_plain_in d f) gs))
folder_once d f floor top [] up = tt
folder_once d f floor top (r ∷ gs) up = elim (cases_Bool (is_plain_in d f r)) [
  | inl t ↦ rw t (others gs (ids_above r.id top gs up.1), folder_once d f r.id top gs up.1)
  | inr t ↦ rw t (folder_once d f r.id top gs up.1)
]
  where
    others : (rows : List GroupRow) → AllByRecursion (λ (x : GroupRow). r.id < x.id) rows → AllByRecursion (λ h. (r.id == h) ≡ false) (map (λ (x : GroupRow). x.id) (filter (is_plain_in d f) rows))
    others [] a = tt
    others (x ∷ rows) a = elim (cases_Bool (is_plain_in d f x)) [
      | inl u ↦ rw u (apart x.id r.id a.0, others rows a.1)
      | inr u ↦ rw u (others rows a.1)
    ]

pub groups_once : (target : Object) (f : Lists) → IsSound f → GroupsOnce (job_groups target f)
groups_once (Group g) f s = (tt, tt)
groups_once (Folder d) f s = folder_once d f 0 f.made.groups f.groups s.groups
groups_once (Def a) f s = tt
groups_once (Attr a) f s = tt
groups_once (Subject x) f s = tt

-- ---- the rows of a group, in order

place_total : IsTotalOrder place_cmp
place_total =
    let first : ℕ × ℕ × ℕ → ℕ = λ p. p.0 in
    let second : ℕ × ℕ × ℕ → ℕ = λ p. p.1 in
    let third : ℕ × ℕ × ℕ → ℕ = λ p. p.2 in
    then_total (then_total (on_total first nat_cmp_total) (on_total second nat_cmp_total)) (on_total third nat_cmp_total)

row_total : IsTotalOrder row_order
row_total =
    let place : MemberRow → ℕ × ℕ × ℕ = λ (row : MemberRow). order.place_of row.group row.member in
    on_total place place_total

into_sorted : (found rows : List MemberRow) → IsStrictlySortedBy row_order found → IsStrictlySortedBy row_order (rows_into found rows)
into_sorted found [] h = h
into_sorted found (row ∷ rows) h = into_sorted (ordered.insert_key row_order found row) rows (put_sorted row_total row found h)

none_sorted : IsStrictlySortedBy row_order []
unfolding IsStrictlySortedBy
none_sorted = tt

all_put : (P : MemberRow → Type 0) (row : MemberRow) (xs : List MemberRow) → P row → AllByRecursion P xs → AllByRecursion P (ordered.insert_key row_order xs row)
all_put P row [] p all = (p, tt)
all_put P row (x ∷ xs) p all = go (row_order row x) (all_put P row xs p all.1)
  where
    go : (w : Ordering) → AllByRecursion P (ordered.insert_key row_order xs row) → AllByRecursion P (match_ordering w (row ∷ x ∷ xs) (x ∷ xs) (x ∷ ordered.insert_key row_order xs row))
    go Less rest = (p, all)
    go Equal rest = all
    go Greater rest = (all.0, rest)

all_into : (P : MemberRow → Type 0) (found rows : List MemberRow) → AllByRecursion P found → AllByRecursion P rows → AllByRecursion P (rows_into found rows)
all_into P found [] a b = a
all_into P found (row ∷ rows) a b = all_into P (ordered.insert_key row_order found row) rows (all_put P row found b.0 a) b.1

-- two persons in order in one group are two
persons_differ : (a s q : ℕ) → place_cmp (a, 0, s) (a, 0, q) ≡ Less → (s == q) ≡ false
persons_differ a s q h = grind (arith, nat_tests, common_steps, h)

persons_same : (a b s q : ℕ) → place_cmp (a, 0, s) (b, 0, q) ≡ Equal → s ≡ q
persons_same a b s q h = grind (arith, nat_tests, common_steps, h)

no_group_here : (a b s q : ℕ) → place_cmp (a, 0, s) (b, 1, q) ≡ Equal → ⊥
no_group_here a b s q h = grind (arith, nat_tests, common_steps, h)

person_twice : (g s a : ℕ) (m : Member) (rest : List Key) → place_cmp (a, 0, s) (order.place_of a m) ≡ Less → is_among (g, s) rest ≡ false → is_among (g, s) (cons_option (elim m [ member.Person q ↦ Some (g, q) | member.Group h ↦ None ]) rest) ≡ false
person_twice g s a (member.Person q) rest h none = rw (eq-eqb g g refl, persons_differ a s q h) none
person_twice g s a (member.Group x) rest h none = none

none_like : (g s a : ℕ) (xs : List MemberRow) → AllByRecursion (λ (y : MemberRow). y.group ≡ a) xs → AllByRecursion (λ (y : MemberRow). place_cmp (a, 0, s) (order.place_of y.group y.member) ≡ Less) xs → is_among (g, s) (filter_map (person_key g) xs) ≡ false
none_like g s a [] same up = refl
none_like g s a (y ∷ xs) same up =
    person_twice g s a y.member (filter_map (person_key g) xs) (subst (λ (n : ℕ). place_cmp (a, 0, s) (order.place_of n y.member) ≡ Less) same.0 up.0) (none_like g s a xs same.1 up.1)

once_rows : (g a : ℕ) (xs : List MemberRow) → AllByRecursion (λ (y : MemberRow). y.group ≡ a) xs → IsStrictlySortedBy row_order xs → Once (filter_map (person_key g) xs)
unfolding IsStrictlySortedBy
once_rows g a [] same up = tt
once_rows g a (x ∷ xs) same up = by x.member refl (once_rows g a xs same.1 up.1)
  where
    by : (m : Member) → x.member ≡ m → Once (filter_map (person_key g) xs) → Once (cons_option (elim m [ member.Person s ↦ Some (g, s) | member.Group h ↦ None ]) (filter_map (person_key g) xs))
    by (member.Person s) e rest = (none_like g s a xs same.1 (all_each (λ (y : MemberRow). row_order x y ≡ Less) (λ (y : MemberRow). place_cmp (a, 0, s) (order.place_of y.group y.member) ≡ Less) xs (λ y h. rw (e, same.0) at h) up.0), rest)
    by (member.Group h) e rest = rest

-- ---- whose keys stand

-- a row of a group that stands, and whose member is known
record IsRowOf (g : ℕ) (f : Lists) (row : MemberRow) : Type 0 where
  group : row.group ≡ g
  there : has_row g row.member f.rows ≡ true
  known : IsKnown f.subjects row.member

rows_each : (rows : List MemberRow) → AllByRecursion (λ (r : MemberRow). has_row r.group r.member rows ≡ true) rows
rows_each [] = tt
rows_each (r ∷ rows) = (
  or_left (is_row r.group r.member r) (has_row r.group r.member rows) (and_from (r.group == r.group) (same_member r.member r.member) (eq-eqb r.group r.group refl) (itself r.member)),
  all_each (λ (x : MemberRow). has_row x.group x.member rows ≡ true) (λ (x : MemberRow). has_row x.group x.member (r ∷ rows) ≡ true) rows (λ x h. or_right (is_row x.group x.member r) (has_row x.group x.member rows) h) (rows_each rows),
)
  where
    itself : (m : Member) → same_member m m ≡ true
    itself (member.Person s) = eq-eqb s s refl
    itself (member.Group g) = eq-eqb g g refl

both : {A : Type 0} (P Q : A → Type 0) (xs : List A) → AllByRecursion P xs → AllByRecursion Q xs → AllByRecursion (λ x. P x × Q x) xs
both P Q [] a b = tt
both P Q (x ∷ xs) a b = ((a.0, b.0), both P Q xs a.1 b.1)

group_rows : (g : ℕ) (f : Lists) → IsSound f → AllByRecursion (λ (row : MemberRow). IsRowOf g f row) (rows_of g f.rows)
unfolding rows_of
group_rows g f s =
    let test : MemberRow → Bool = λ (row : MemberRow). row.group == g in
    let P : MemberRow → Type 0 = λ (row : MemberRow). (has_row row.group row.member f.rows ≡ true) × IsKnown f.subjects row.member in
    all_into (λ (row : MemberRow). IsRowOf g f row) [] (filter test f.rows) tt
    (all_each (λ (row : MemberRow). P row × (test row ≡ true)) (λ (row : MemberRow). IsRowOf g f row) (filter test f.rows) (λ row h. is row h)
    (all_filtered P test f.rows (both (λ (r : MemberRow). has_row r.group r.member f.rows ≡ true) (λ (r : MemberRow). IsKnown f.subjects r.member) f.rows (rows_each f.rows) s.known)))
  where
    is : (row : MemberRow) → ((has_row row.group row.member f.rows ≡ true) × IsKnown f.subjects row.member) × ((row.group == g) ≡ true) → IsRowOf g f row
    is row h = let same : row.group ≡ g = eqb-true row.group g h.1 in record { group = same; there = subst (λ (n : ℕ). has_row n row.member f.rows ≡ true) same h.0.0; known = h.0.1 }

rows_sorted : (g : ℕ) (rows : List MemberRow) → IsStrictlySortedBy row_order (rows_of g rows)
unfolding rows_of
rows_sorted g rows = into_sorted [] (filter (λ (row : MemberRow). row.group == g) rows) none_sorted

persons_once : (g : ℕ) (f : Lists) → IsSound f → Once (persons_in f g)
persons_once g f s = once_rows g g (rows_of g f.rows) (all_each (λ (row : MemberRow). IsRowOf g f row) (λ (row : MemberRow). row.group ≡ g) (rows_of g f.rows) (λ row h. h.group) (group_rows g f s)) (rows_sorted g f.rows)

-- a key of a person who is in a group of a job
pub record IsIn (target : Object) (f : Lists) (key : Key) : Type 0 where
  pub group : IsOf target f key.0
  pub person : has_subject key.1 f.subjects ≡ true
  pub row : has_row key.0 (member.Person key.1) f.rows ≡ true

-- the same of one group
record IsInGroup (g : ℕ) (f : Lists) (key : Key) : Type 0 where
  group : key.0 ≡ g
  person : has_subject key.1 f.subjects ≡ true
  row : has_row g (member.Person key.1) f.rows ≡ true

persons_are : (g : ℕ) (f : Lists) → IsSound f → AllByRecursion (λ (key : Key). IsInGroup g f key) (persons_in f g)
persons_are g f s = all_mapped (λ (row : MemberRow). IsRowOf g f row) (λ (key : Key). IsInGroup g f key) (person_key g) (rows_of g f.rows) (λ row h key e. by row.member h.there h.known key e) (group_rows g f s)
  where
    by : (m : Member) → has_row g m f.rows ≡ true → IsKnown f.subjects m → (key : Key) → (elim m [ member.Person s ↦ Some (g, s) | member.Group h ↦ None ]) ≡ Some key → IsInGroup g f key
    by (member.Person s) there known key e =
        let same : (g, s) ≡ key = some_is (g, s) key e in
        subst (λ (k : Key). IsInGroup g f k) same (record { group = refl; person = known; row = there })
    by (member.Group h) there known key e = cc e

pub standing_in : (target : Object) (f : Lists) (gs : List ℕ) → IsSound f → AllByRecursion (λ g. IsOf target f g) gs → AllByRecursion (λ (key : Key). IsIn target f key) (flat_map (persons_in f) gs)
standing_in target f [] s of = tt
standing_in target f (g ∷ gs) s of = all_joined (λ (key : Key). IsIn target f key) (persons_in f g) (flat_map (persons_in f) gs)
    (all_each (λ (key : Key). IsInGroup g f key) (λ (key : Key). IsIn target f key) (persons_in f g) (λ key h. record {
      group = subst (λ (n : ℕ). IsOf target f n) (sym h.group) of.0;
      person = h.person;
      row = subst (λ (n : ℕ). has_row n (member.Person key.1) f.rows ≡ true) (sym h.group) h.row;
    }) (persons_are g f s)) (standing_in target f gs s of.1)

-- keys of another group
other_keys : (key : Key) (keys : List Key) → AllByRecursion (λ (k : Key). (key.0 == k.0) ≡ false) keys → is_among key keys ≡ false
other_keys key [] h = refl
other_keys key (k ∷ keys) h = rw h.0 (other_keys key keys h.1)

others_apart : (g : ℕ) (f : Lists) (gs : List ℕ) → IsSound f → AllByRecursion (λ h. (g == h) ≡ false) gs → AllByRecursion (λ (k : Key). (g == k.0) ≡ false) (flat_map (persons_in f) gs)
others_apart g f [] s apart = tt
others_apart g f (h ∷ gs) s apart = all_joined (λ (k : Key). (g == k.0) ≡ false) (persons_in f h) (flat_map (persons_in f) gs)
    (all_each (λ (key : Key). IsInGroup h f key) (λ (k : Key). (g == k.0) ≡ false) (persons_in f h) (λ key is. apart_from g h key.0 apart.0 is.group) (persons_are h f s)) (others_apart g f gs s apart.1)

pub standing_once : (f : Lists) (gs : List ℕ) → IsSound f → GroupsOnce gs → Once (flat_map (persons_in f) gs)
standing_once f [] s once = tt
standing_once f (g ∷ gs) s once = once_joined (persons_in f g) (flat_map (persons_in f) gs) (persons_once g f s) (standing_once f gs s once.1)
    (all_each (λ (key : Key). IsInGroup g f key) (λ (key : Key). is_among key (flat_map (persons_in f) gs) ≡ false) (persons_in f g)
    (λ key is. other_keys key (flat_map (persons_in f) gs) (subst (λ (n : ℕ). AllByRecursion (λ (k : Key). (n == k.0) ≡ false) (flat_map (persons_in f) gs)) (sym is.group) (others_apart g f gs s once.0))) (persons_are g f s))

-- ---- who stands is among the keys that stand

among_front : (key : Key) (o : Option Key) (keys : List Key) → is_among key keys ≡ true → is_among key (cons_option o keys) ≡ true
among_front key None keys h = h
among_front key (Some k) keys h = or_right (same_key key k) (is_among key keys) h

among_first : (key : Key) (o : Option Key) (keys : List Key) → o ≡ Some key → is_among key (cons_option o keys) ≡ true
among_first key None keys h = none_some key h
among_first key (Some k) keys h = or_left (same_key key k) (is_among key keys) (subst (λ (x : Key). same_key key x ≡ true) (sym (some_is k key h)) (same_key_self key))

module _ (g s : ℕ) where
  abbrev keys_in : List MemberRow → List Key
  keys_in rows = filter_map (person_key g) rows

  put_keeps : (row : MemberRow) (xs : List MemberRow) → is_among (g, s) (keys_in xs) ≡ true → is_among (g, s) (keys_in (ordered.insert_key row_order xs row)) ≡ true
  put_keeps row [] h = cc h
  put_keeps row (x ∷ xs) h = go (row_order row x) (λ k. put_keeps row xs k) (split (person_key g x) h)
    where
      split : (o : Option Key) → is_among (g, s) (cons_option o (keys_in xs)) ≡ true → (o ≡ Some (g, s)) ⊎ (is_among (g, s) (keys_in xs) ≡ true)
      split None h = inr h
      split (Some k) h = elim (or_cases (same_key (g, s) k) (is_among (g, s) (keys_in xs)) h) [ inl t ↦ inl (ap Some (sym (same_key_is (g, s) k t))) | inr t ↦ inr t ]

      go : (w : Ordering) → (is_among (g, s) (keys_in xs) ≡ true → is_among (g, s) (keys_in (ordered.insert_key row_order xs row)) ≡ true) → (person_key g x ≡ Some (g, s)) ⊎ (is_among (g, s) (keys_in xs) ≡ true)
          → is_among (g, s) (keys_in (match_ordering w (row ∷ x ∷ xs) (x ∷ xs) (x ∷ ordered.insert_key row_order xs row))) ≡ true
      go Less more k = among_front (g, s) (person_key g row) (keys_in (x ∷ xs)) h
      go Equal more k = h
      go Greater more (inl e) = among_first (g, s) (person_key g x) (keys_in (ordered.insert_key row_order xs row)) e
      go Greater more (inr t) = among_front (g, s) (person_key g x) (keys_in (ordered.insert_key row_order xs row)) (more t)

  same_person : (a : ℕ) (x : MemberRow) → place_cmp (a, 0, s) (order.place_of x.group x.member) ≡ Equal → person_key g x ≡ Some (g, s)
  same_person a x h = by x.member h
    where
      by : (m : Member) → place_cmp (a, 0, s) (order.place_of x.group m) ≡ Equal → ◌≡◌ {A = Option Key} (elim m [ member.Person q ↦ Some (g, q) | member.Group y ↦ None ]) (Some (g, s))
      by (member.Person q) h = ap (λ (n : ℕ). Some (g, n)) (sym (persons_same a x.group s q h))
      by (member.Group y) h = absurd (no_group_here a x.group s y h)

  put_new : (row : MemberRow) (xs : List MemberRow) → row.member ≡ member.Person s → is_among (g, s) (keys_in (ordered.insert_key row_order xs row)) ≡ true
  put_new row [] is = among_first (g, s) (person_key g row) [] (rw is refl)
  put_new row (x ∷ xs) is = go (row_order row x) refl (put_new row xs is)
    where
      go : (w : Ordering) → row_order row x ≡ w → is_among (g, s) (keys_in (ordered.insert_key row_order xs row)) ≡ true → is_among (g, s) (keys_in (match_ordering w (row ∷ x ∷ xs) (x ∷ xs) (x ∷ ordered.insert_key row_order xs row))) ≡ true
      go Less e rest = among_first (g, s) (person_key g row) (keys_in (x ∷ xs)) (rw is refl)
      go Equal e rest = among_first (g, s) (person_key g x) (keys_in xs) (same_person row.group x (rw is at e))
      go Greater e rest = among_front (g, s) (person_key g x) (keys_in (ordered.insert_key row_order xs row)) rest

  into_keeps : (found rows : List MemberRow) → is_among (g, s) (keys_in found) ≡ true → is_among (g, s) (keys_in (rows_into found rows)) ≡ true
  into_keeps found [] h = h
  into_keeps found (row ∷ rows) h = into_keeps (ordered.insert_key row_order found row) rows (put_keeps row found h)

  member_is : (m : Member) → same_member m (member.Person s) ≡ true → m ≡ member.Person s
  member_is (member.Person q) h = ap (λ (n : ℕ). member.Person n) (eqb-true q s h)
  member_is (member.Group x) h = cc h

  into_has : (found rows : List MemberRow) → has_row g (member.Person s) rows ≡ true → is_among (g, s) (keys_in (rows_into found (filter (λ (row : MemberRow). row.group == g) rows))) ≡ true
  into_has found [] h = cc h
  into_has found (row ∷ rows) h = elim (or_cases (is_row g (member.Person s) row) (has_row g (member.Person s) rows) h) [
    | inl t ↦
        let parts = and_parts (row.group == g) (same_member row.member (member.Person s)) t in
        rw parts.0 (into_keeps (ordered.insert_key row_order found row) (filter (λ (r : MemberRow). r.group == g) rows) (put_new row found (member_is row.member parts.1)))
    | inr t ↦ elim (cases_Bool (row.group == g)) [
      | inl u ↦ rw u (into_has (ordered.insert_key row_order found row) rows t)
      | inr u ↦ rw u (into_has found rows t)
    ]
  ]

  person_among : (f : Lists) → has_row g (member.Person s) f.rows ≡ true → is_among (g, s) (persons_in f g) ≡ true
  unfolding rows_of
  person_among f h = into_has [] f.rows h

  flat_among : (f : Lists) (gs : List ℕ) → list_any (λ h. h == g) gs ≡ true → is_among (g, s) (persons_in f g) ≡ true → is_among (g, s) (flat_map (persons_in f) gs) ≡ true
  flat_among f [] h k = cc h
  flat_among f (x ∷ gs) h k =
      list_any-append (same_key (g, s)) (persons_in f x) (flat_map (persons_in f) gs)
      ∙ elim (or_cases (x == g) (list_any (λ h. h == g) gs) h) [
        | inl t ↦ or_left (is_among (g, s) (persons_in f x)) (is_among (g, s) (flat_map (persons_in f) gs)) (subst (λ (n : ℕ). is_among (g, s) (persons_in f n) ≡ true) (sym (eqb-true x g t)) k)
        | inr t ↦ or_right (is_among (g, s) (persons_in f x)) (is_among (g, s) (flat_map (persons_in f) gs)) (flat_among f gs t k)
      ]

  pub standing_among : (target : Object) (f : Lists) → is_of_target target g f ≡ true → has_row g (member.Person s) f.rows ≡ true → is_among (g, s) (standing target f) ≡ true
  standing_among target f of h = flat_among f (job_groups target f) (one_of_groups target f g of) (person_among f h)
