-- The groups of a person over the facts are those that the view shows.
use Rattle.std.proofs.Common.{Bor, ◌≡◌, ◌==◌, ◌&&◌, ◌<◌, ◌∷◌, ℕ, List, [], Bool, true, false, Option, Some, None, Result, Ok, Err, inl, inr, refl, sym, ap, ◌∙◌, map, filter, bytes_eq, codes, arith}
use Rattle.std.specs.Prelude.{if◌then◌else◌, is_some}
use Rattle.std.specs.List.{AllByRecursion, list_any}
use Rattle.std.specs.List.Sorted.{IsStrictlySortedBy}
use Rattle.std.specs.BTreeSet.{BTreeSet}
use Rattle.std.specs.Option.{option_copied}
use Rattle.std.specs.Ordering.{nat_cmp, is_eq}
use Rattle.std.specs.declared.cmp.Ordering.TheVariants.{Less}
use Rattle.std.proofs.lemmas.Bool.{cases_Bool, eqb-true}
use Rattle.std.proofs.lemmas.Bool.Decides.{nat_tests}
use Rattle.std.proofs.lemmas.Cmp.{nat_cmp_total}
use Rattle.std.proofs.lemmas.Grind.{common_steps}
use Rattle.std.proofs.lemmas.List.Kept.{IsStrictlySortedBy-filter}
use Rattle.std.proofs.lemmas.Map.Lookups.{btree_set_from_contains, exact_unsigned}
use Rattle.reg_base.specs.declared.entity.Entity.{Entity}
use Rattle.reg_base.specs.declared.entity.Entity.TheVariants as entity
use Rattle.reg_terms.specs.declared.kinds.Object.TheVariants as object
use Rattle.reg_terms.specs.declared.refusal.Refusal.{Refusal}
use Rattle.reg_terms.specs.declared.refusal.Refusal.TheVariants.{NotFound}
use Rattle.reg_terms.specs.declared.rows.GroupRow.{GroupRow}
use Rattle.reg_terms.specs.declared.rows.SubjectRow.{SubjectRow}
use Rattle.reg_terms.specs.declared.query.Answer.{Answer}
use Rattle.reg_terms.specs.declared.query.Answer.TheVariants as answer
use Rattle.reg_graph.specs.Edges.{among}
use Rattle.reg_facts.specs.Children.{is_among}
use Rattle.reg_facts.specs.Edits.{subject_id}
use Rattle.reg_facts.specs.Lists.{Lists}
use Rattle.reg_facts.specs.Members.{texts_where}
use Rattle.reg_facts.specs.Named.{AreNamed}
use Rattle.reg_facts.specs.Naming.{name_of}
use Rattle.reg_facts.specs.Rows.{group_row}
use Rattle.reg_facts.specs.Sound.{AreTextsOnce, AscendFrom, IsSound, has_group}
use Rattle.reg_effect.specs.declared.live.Live.{Live}
use Rattle.reg_effect.specs.Member.{member}
use Rattle.reg_priv.specs.declared.who.Who.{Who}
use Rattle.reg_view.specs.Answers.{groups_at, groups_of, groups_where, readable_names, unfit}
use Rattle.reg_view.specs.Past.{Past, moment_of}
use Rattle.reg_view.specs.Show as shown
use Rattle.reg_view.specs.Show.{◌>>=◌, in_time, shown_groups}
use Rattle.reg_view.specs.View.{View, GroupRead, GroupSeen, group_object, group_read, is_readable, seen_by, shown_where}
use Rattle.reg_view.proofs.PastGroups.{in_time_same}
use Rattle.reg_view.proofs.Same.{bytes_same}
use Rattle.reg_view.proofs.Seen.{by_seen}

-- a group stands where its row is found
row_found : (g : ℕ) (rows : List GroupRow) → is_some (group_row g rows) ≡ has_group g rows
row_found g [] = refl
row_found g (row ∷ rows) = elim (cases_Bool (row.id == g)) [
  | inl t ↦ rw t refl
  | inr t ↦ rw t (row_found g rows)
]

some_copied : {A : Type 0} (o : Option (Bor A)) → is_some (option_copied o) ≡ is_some o
some_copied None = refl
some_copied (Some a) = refl

pub found_stands : (o : Option (Bor GroupRow)) (g : ℕ) (rows : List GroupRow) → option_copied o ≡ group_row g rows → is_some o ≡ has_group g rows
found_stands o g rows at = sym (some_copied o) ∙ ap is_some at ∙ row_found g rows

-- ---- ids in order

above : (n x top : ℕ) (xs : List ℕ) → n < x → AscendFrom x top xs → AllByRecursion (λ y. nat_cmp n y ≡ Less) (x ∷ xs)
above n x top [] h up = (less n x h, tt)
  where
    less : (a b : ℕ) → a < b → nat_cmp a b ≡ Less
    less a b h = grind (arith, nat_tests, common_steps)
above n x top (y ∷ xs) h up = (less n x h, above n y top xs (omega (arith, h, up.0)) up.1)
  where
    less : (a b : ℕ) → a < b → nat_cmp a b ≡ Less
    less a b h = grind (arith, nat_tests, common_steps)

all_above : (n top : ℕ) (xs : List ℕ) → AscendFrom n top xs → AllByRecursion (λ y. nat_cmp n y ≡ Less) xs
all_above n top [] up = tt
all_above n top (x ∷ xs) up = above n x top xs up.0 up.1

pub ascending : (n top : ℕ) (xs : List ℕ) → AscendFrom n top xs → IsStrictlySortedBy nat_cmp xs
unfolding IsStrictlySortedBy
ascending n top [] up = tt
ascending n top (x ∷ xs) up = (all_above x top xs up.1, ascending x top xs up.1)

equal_is : (q k : ℕ) → is_eq (nat_cmp q k) ≡ (k == q)
equal_is q k = grind (arith, nat_tests, common_steps)

among_is : (q : ℕ) (xs : List ℕ) → list_any (λ k. is_eq (nat_cmp q k)) xs ≡ among q xs
among_is q [] = refl
among_is q (k ∷ xs) = rw (equal_is q k, among_is q xs) refl

among_filter : (test : ℕ → Bool) (q : ℕ) (xs : List ℕ) → among q (filter test xs) ≡ (test q && among q xs)
among_filter test q [] = elim (cases_Bool (test q)) [ inl t ↦ rw t refl | inr t ↦ rw t refl ]
among_filter test q (x ∷ xs) = elim (cases_Bool (x == q)) [
  | inl e ↦
      let same : test x ≡ test q = ap test (eqb-true x q e) in
      elim (cases_Bool (test q)) [
        | inl y ↦ rw (same, y, e) refl
        | inr y ↦ rw (same, y) (among_filter test q xs ∙ rw y refl)
      ]
  | inr e ↦ elim (cases_Bool (test x)) [
    | inl y ↦ rw (y, e) (among_filter test q xs)
    | inr y ↦ rw (y, e) (among_filter test q xs)
  ]
]

among_ids : (q : ℕ) (rows : List GroupRow) → among q (map (λ (row : GroupRow). row.id) rows) ≡ has_group q rows
among_ids q [] = refl
among_ids q (row ∷ rows) = rw (among_ids q rows) refl

ids_filtered : (test : ℕ → Bool) (rows : List GroupRow) → map (λ (row : GroupRow). row.id) (filter (λ (row : GroupRow). test row.id) rows) ≡ filter test (map (λ (row : GroupRow). row.id) rows)
ids_filtered test [] = refl
ids_filtered test (row ∷ rows) = elim (cases_Bool (test row.id)) [
  | inl t ↦ rw t (ap (λ more. row.id ∷ more) (ids_filtered test rows))
  | inr t ↦ rw t (ids_filtered test rows)
]

either_way : (has reads is : Bool) → ((has && reads) && is) ≡ ((is && reads) && has)
either_way true true true = refl
either_way true true false = refl
either_way true false true = refl
either_way true false false = refl
either_way false true true = refl
either_way false true false = refl
either_way false false true = refl
either_way false false false = refl

names_map : (f : Lists) (rows : List GroupRow) → map (λ (g : ℕ). name_of (object.Group g) f) (map (λ (row : GroupRow). row.id) rows) ≡ map (λ (row : GroupRow). name_of (object.Group row.id) f) rows
names_map f [] = refl
names_map f (row ∷ rows) = ap (λ more. name_of (object.Group row.id) f ∷ more) (names_map f rows)

-- the groups of some ids are those of the rows
pub names_of_ids : (L : Live) (f : Lists) (c : Who) (is : ℕ → Bool) (ids : List ℕ) → IsSound f → IsStrictlySortedBy nat_cmp ids → ((g : ℕ) → among g ids ≡ is g) → answer.Groups (readable_names L f c ids) ≡ groups_where is L f c
names_of_ids L f c is ids sound sorted each =
    let reads : ℕ → Bool = λ g. is_readable L f c (object.Group g) in
    let stands : ℕ → Bool = λ g. has_group g f.groups && reads g in
    let has : ℕ → Bool = λ g. is g && reads g in
    let all : List ℕ = map (λ (row : GroupRow). row.id) f.groups in
    let a : BTreeSet ℕ = record { keys = filter stands ids } in
    let b : BTreeSet ℕ = record { keys = filter has all } in
    let up : IsStrictlySortedBy nat_cmp all = ascending 0 f.made.groups all sound.groups in
    let one : filter stands ids ≡ filter has all = btree_set_from_contains nat_cmp_total a b (IsStrictlySortedBy-filter nat_cmp stands ids sorted) (IsStrictlySortedBy-filter nat_cmp has all up) (λ q.
    among_is q (filter stands ids)
    ∙ among_filter stands q ids
    ∙ ap (λ x. stands q && x) (each q)
    ∙ either_way (has_group q f.groups) (reads q) (is q)
    ∙ ap (λ x. has q && x) (sym (among_ids q f.groups))
    ∙ sym (among_filter has q all)
    ∙ sym (among_is q (filter has all))) exact_unsigned in
    ap (λ gs. answer.Groups (map (λ (g : ℕ). name_of (object.Group g) f) gs)) (one ∙ sym (ids_filtered has f.groups))
    ∙ ap (λ names. answer.Groups names) (names_map f (filter (λ (row : GroupRow). has row.id) f.groups))

-- ---- texts of subjects

pub text_known : (text : List ℕ) (rows : List SubjectRow) → is_among text (map (λ (row : SubjectRow). row.text) rows) ≡ is_some (subject_id text rows)
text_known text [] = refl
text_known text (row ∷ rows) = elim (cases_Bool (bytes_eq row.text text)) [
  | inl t ↦ rw t refl
  | inr t ↦ rw t (text_known text rows)
]

abbrev passes : (ℕ → Bool) → Option ℕ → Bool
passes test None = false
passes test (Some s) = test s

-- a person is among some of the subjects by its text exactly where its id is
member_told : (test : ℕ → Bool) (text : List ℕ) (rows : List SubjectRow) → AreTextsOnce rows → is_among text (texts_where test rows) ≡ passes test (subject_id text rows)
member_told test text [] once = refl
member_told test text (row ∷ rows) once = elim (cases_Bool (bytes_eq row.text text)) [
  | inl t ↦
      let none : subject_id text rows ≡ None = ap (λ x. subject_id x rows) (sym (bytes_same row.text text t)) ∙ once.0 in
      let later : is_among text (texts_where test rows) ≡ false = member_told test text rows once.1 ∙ ap (passes test) none in
      elim (cases_Bool (test row.id)) [
        | inl y ↦ rw (t, y, t) refl
        | inr y ↦ rw (t, y) later
      ]
  | inr t ↦ elim (cases_Bool (test row.id)) [
    | inl y ↦ rw (t, y, t) (member_told test text rows once.1)
    | inr y ↦ rw (t, y) (member_told test text rows once.1)
  ]
]

-- groups by two tests that agree
rows_same : (a b reads : ℕ → Bool) → ((g : ℕ) → a g ≡ b g) → (rows : List GroupRow) → filter (λ (row : GroupRow). a row.id && reads row.id) rows ≡ filter (λ (row : GroupRow). b row.id && reads row.id) rows
rows_same a b reads same [] = refl
rows_same a b reads same (row ∷ rows) = elim (cases_Bool (b row.id && reads row.id)) [
  | inl t ↦ let u : (a row.id && reads row.id) ≡ true = ap (λ x. x && reads row.id) (same row.id) ∙ t in rw (t, u) (ap (λ more. row ∷ more) (rows_same a b reads same rows))
  | inr t ↦ let u : (a row.id && reads row.id) ≡ false = ap (λ x. x && reads row.id) (same row.id) ∙ t in rw (t, u) (rows_same a b reads same rows)
]

groups_same : (L : Live) (f : Lists) (c : Who) (a b : ℕ → Bool) → ((g : ℕ) → a g ≡ b g) → groups_where a L f c ≡ groups_where b L f c
groups_same L f c a b same = ap (λ rows. answer.Groups (map (λ (row : GroupRow). name_of (object.Group row.id) f) rows)) (rows_same a b (λ g. is_readable L f c (object.Group g)) same f.groups)

module _ (past : Past) (L : Live) (f : Lists) (sound : IsSound f) (are : AreNamed f) (once : AreTextsOnce f.subjects) (c : Who) (now : ℕ) (by : List ℕ) where
  abbrev view_at : ℕ → View
  view_at moment = seen_by past L f now moment by c

  -- the rows of a person
  module _ (moment : ℕ) (text : List ℕ) (s : ℕ) (at : subject_id text f.subjects ≡ Some s) where
    has : (g : ℕ) → is_among text (texts_where (past.was moment g) f.subjects) ≡ past.was moment g s
    has g = member_told (past.was moment g) text f.subjects once ∙ ap (passes (past.was moment g)) at

    rows_with : (rows : List GroupRow) → map (λ (row : GroupRow). name_of (object.Group row.id) f) (filter (λ (row : GroupRow). past.was moment row.id s && is_readable L f c (object.Group row.id)) rows)
        ≡ map (λ (g : GroupRead). g.name) (filter (λ (g : GroupRead). is_among text g.past.members) (shown_where group_object (is_readable L f c) (group_read past f moment) rows))
    rows_with [] = refl
    rows_with (row ∷ rows) = elim (cases_Bool (is_readable L f c (object.Group row.id))) [
      | inl r ↦ elim (cases_Bool (past.was moment row.id s)) [
        | inl m ↦ rw (r, has row.id, m) (ap (λ more. name_of (object.Group row.id) f ∷ more) (rows_with rows))
        | inr m ↦ rw (r, has row.id, m) (rows_with rows)
      ]
      | inr r ↦ elim (cases_Bool (past.was moment row.id s)) [
        | inl m ↦ rw (r, m) (rows_with rows)
        | inr m ↦ rw (r, m) (rows_with rows)
      ]
    ]

  module _ (is_now : (g s : ℕ) → past.was now g s ≡ member L g s) where
    abbrev shows : Option ℕ → Entity → Result Answer Refusal
    shows at e = in_time now at >>= (λ _. shown.groups_with (view_at (moment_of now at)) e)

    abbrev groups_then : ℕ → ℕ → Result Answer Refusal
    groups_then s t = Ok (groups_where (λ g. past.was t g s) L f c)

    moment_same : (at : Option ℕ) (s : ℕ) → groups_at past L f now c s at ≡ (in_time now at >>= (λ _. groups_then s (moment_of now at)))
    moment_same None s = ap (λ a. Ok a) (groups_same L f c (λ g. member L g s) (λ g. past.was now g s) (λ g. sym (is_now g s)))
    moment_same (Some at) s = in_time_same (groups_then s) now at

    person_agrees : (text : List ℕ) (at : Option ℕ) (o : Option ℕ) → subject_id text f.subjects ≡ o
        → (elim o [ None ↦ Err (NotFound text) | Some s ↦ groups_at past L f now c s at ]) ≡ ((if is_some o then Ok (entity.Person text) else Err (NotFound text)) >>= shows at)
    person_agrees text at None is = refl
    person_agrees text at (Some s) is = moment_same at s ∙ ap (λ names. in_time now at >>= (λ _. Ok (answer.Groups names))) (rows_with (moment_of now at) text s is f.groups)

    pub groups_agree : (e : Entity) (at : Option ℕ) → groups_of past L f now c e at ≡ shown_groups (view_at (moment_of now at)) e at
    groups_agree (entity.Person text) at =
        person_agrees text at (subject_id text f.subjects) refl
        ∙ ap (λ b. (if b then Ok (entity.Person text) else Err (NotFound text)) >>= shows at) (sym (text_known text f.subjects))
    groups_agree (entity.Group name) at =
        by_seen past (moment_of now at) L f sound are c now by name (λ (g : GroupSeen). unfit (codes "subject") now at) (λ id. unfit (codes "subject") now at) (λ row at there. refl)
        ∙ sym (after_seen (shown.seen (view_at (moment_of now at)) name))
      where
        after_seen : (r : Result GroupSeen Refusal) → ((r >>= (λ _. Ok (entity.Group name))) >>= shows at) ≡ (r >>= (λ _. unfit (codes "subject") now at))
        after_seen (Ok g) = refl
        after_seen (Err e) = refl
    groups_agree entity.System at = refl
    groups_agree entity.Everyone at = refl
