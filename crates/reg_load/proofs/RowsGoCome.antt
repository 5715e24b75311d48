-- Rows of persons that go and that come, one after another: what they leave, and when they suit the facts.
use Rattle.std.proofs.Common.{◌≡◌, ◌≤◌, ◌==◌, ◌+◌, ◌++◌, ◌&&◌, ◌||◌, ◌∙◌, ℕ, List, [], ◌∷◌, Bool, true, false, inl, inr, refl, sym, ap, subst, length, length-append, map, filter, arith, eqb-true}
use Rattle.std.specs.Prelude.{not}
use Rattle.std.specs.List.{AllByRecursion, list_all, list_any}
use Rattle.std.proofs.lemmas.Bool.{cases_Bool, and_from, and_parts, or_from, or_parts, both_ways}
use Rattle.std.proofs.lemmas.List.{append-nil, append_assoc}
use Rattle.std.proofs.lemmas.List.Elements.{filter-append}
use Rattle.std.proofs.lemmas.List.Folds.{list_any-append}
use Rattle.reg_terms.specs.Kinds.{same_member}
use Rattle.reg_terms.specs.Limits.{max_rows}
use Rattle.reg_terms.specs.declared.kinds.Member.{Member}
use Rattle.reg_terms.specs.declared.kinds.Member.TheVariants.{Person, Group}
use Rattle.reg_terms.specs.declared.rows.CompositeRow.{CompositeRow}
use Rattle.reg_terms.specs.declared.rows.GroupRow.{GroupRow}
use Rattle.reg_terms.specs.declared.rows.MemberRow.{MemberRow}
use Rattle.reg_terms.specs.declared.rows.SubjectRow.{SubjectRow}
use Rattle.reg_terms.specs.declared.rows.PersonRow.{PersonRow}
use Rattle.reg_terms.specs.Rows.{is_composite, is_row}
use Rattle.reg_facts.specs.Events.{all_happened, happened, new_row, row_comes, row_goes, rows_events}
use Rattle.reg_facts.specs.Lists.{Lists}
use Rattle.reg_facts.specs.Sound.{has_group, has_subject}
use Rattle.reg_facts.specs.Suiting.{AllSuit}
use Rattle.reg_facts.proofs.RulesStand.{number_turned}
use Rattle.reg_load.specs.PersonRows.{comes_twice, is_one_of, same_row, stands}
use Rattle.reg_load.specs.Loading.{AreLoaded, is_groups, is_of_rows, loaded_rows}
use Rattle.reg_load.proofs.GroupsMade.{happened_append}
use Rattle.reg_load.proofs.GroupsSuit.{suit_append}

-- ---- rows that are one

pub row_turned : (a b : PersonRow) → same_row a b ≡ same_row b a
row_turned a b = rw (number_turned a.group b.group, number_turned a.person b.person) refl

-- whether a membership is this row
abbrev is_it : PersonRow → MemberRow → Bool
is_it r row = is_row r.group (Person r.person) row

-- a membership that is a row is another just where the two are one
it_is : (r q : PersonRow) (row : MemberRow) → is_it r row ≡ true → is_it q row ≡ same_row r q
it_is r q row h = let parts = and_parts (row.group == r.group) (same_member row.member (Person r.person)) h in go row.member (eqb-true row.group r.group parts.0) parts.1
  where
    go : (m : Member) → row.group ≡ r.group → same_member m (Person r.person) ≡ true → ((row.group == q.group) && same_member m (Person q.person)) ≡ same_row r q
    go (Person p) group same = rw (group, eqb-true p r.person same) refl
    go (Group g) group same = absurd (both_ways false refl same)

-- ---- rows without one

abbrev without : PersonRow → List MemberRow → List MemberRow
without r rows = filter (λ (row : MemberRow). not (is_it r row)) rows

dropped : (r : PersonRow) (row : MemberRow) (rows : List MemberRow) → is_it r row ≡ true → without r (row ∷ rows) ≡ without r rows
dropped r row rows t = rw t refl

left : (r : PersonRow) (row : MemberRow) (rows : List MemberRow) → is_it r row ≡ false → without r (row ∷ rows) ≡ row ∷ without r rows
left r row rows t = rw t refl

and_or : (s x : Bool) → (x && not s) ≡ ((s || x) && not s)
and_or true true = refl
and_or true false = refl
and_or false true = refl
and_or false false = refl

or_and : (i x s : Bool) → (i ≡ true → s ≡ false) → (i || (x && not s)) ≡ ((i || x) && not s)
or_and true x s h = rw (h refl) refl
or_and false x s h = refl

stands_without : (r q : PersonRow) (rows : List MemberRow) → stands (without r rows) q ≡ (stands rows q && not (same_row r q))
stands_without r q [] = refl
stands_without r q (row ∷ rows) = elim (cases_Bool (is_it r row)) [
  | inl t ↦ ap (λ xs. stands xs q) (dropped r row rows t) ∙ (stands_without r q rows ∙ (and_or (same_row r q) (stands rows q) ∙ ap (λ b. (b || stands rows q) && not (same_row r q)) (sym (it_is r q row t))))
  | inr t ↦ ap (λ xs. stands xs q) (left r row rows t) ∙ (ap (λ b. is_it q row || b) (stands_without r q rows) ∙ or_and (is_it q row) (stands rows q) (same_row r q) (λ here. other here t))
]
  where
    other : is_it q row ≡ true → is_it r row ≡ false → same_row r q ≡ false
    other here t = row_turned r q ∙ (sym (it_is q r row here) ∙ t)

shorter : (r : PersonRow) (rows : List MemberRow) → length (without r rows) ≤ length rows
shorter r [] = omega arith
shorter r (row ∷ rows) = let rest = shorter r rows in elim (cases_Bool (is_it r row)) [
  | inl t ↦ rw t (omega (arith, rest))
  | inr t ↦ rw t (omega (arith, rest))
]

one_less : (r : PersonRow) (rows : List MemberRow) → stands rows r ≡ true → length (without r rows) + 1 ≤ length rows
one_less r [] h = absurd (both_ways false refl h)
one_less r (row ∷ rows) h = elim (cases_Bool (is_it r row)) [
  | inl t ↦ let rest = shorter r rows in rw t (omega (arith, rest))
  | inr t ↦ let rest = one_less r rows (rw t at h) in rw t (omega (arith, rest))
]

-- ---- rows go

abbrev pub gone : List PersonRow → List MemberRow → List MemberRow
gone [] rows = rows
gone (r ∷ rs) rows = gone rs (without r rows)

pub after_gone : (rs : List PersonRow) (f : Lists) → all_happened (map row_goes rs) f ≡ record f { rows = gone rs f.rows }
after_gone [] f = refl
after_gone (r ∷ rs) f = after_gone rs (happened (row_goes r) f)

still : (r : PersonRow) (rs : List PersonRow) (rows : List MemberRow) → is_one_of rs r ≡ false → list_all (stands rows) rs ≡ true → list_all (stands (without r rows)) rs ≡ true
still r [] rows once h = refl
still r (q ∷ rs) rows once h =
    let other = or_parts (same_row r q) (is_one_of rs r) once in
    let parts = and_parts (stands rows q) (list_all (stands rows) rs) h in
    and_from (stands (without r rows) q) (list_all (stands (without r rows)) rs) (stands_without r q rows ∙ rw (parts.0, other.0) refl) (still r rs rows other.1 parts.1)

pub gone_suit : (rs : List PersonRow) (f : Lists) → list_all (stands f.rows) rs ≡ true → comes_twice rs ≡ false → AllSuit (map row_goes rs) f
gone_suit [] f all once = tt
gone_suit (r ∷ rs) f all once =
    let apart = or_parts (is_one_of rs r) (comes_twice rs) once in
    let parts = and_parts (stands f.rows r) (list_all (stands f.rows) rs) all in
    (parts.0, gone_suit rs (happened (row_goes r) f) (still r rs f.rows apart.0 parts.1) apart.1)

pub gone_length : (rs : List PersonRow) (rows : List MemberRow) → list_all (stands rows) rs ≡ true → comes_twice rs ≡ false → length (gone rs rows) + length rs ≤ length rows
gone_length [] rows all once = omega arith
gone_length (r ∷ rs) rows all once =
    let apart = or_parts (is_one_of rs r) (comes_twice rs) once in
    let parts = and_parts (stands rows r) (list_all (stands rows) rs) all in
    let rest = gone_length rs (without r rows) (still r rs rows apart.0 parts.1) apart.1 in
    let here = one_less r rows parts.0 in
    omega (arith, rest, here)

-- all at once
without_both : (p q : MemberRow → Bool) (rows : List MemberRow) → filter (λ row. not (q row)) (filter (λ row. not (p row)) rows) ≡ filter (λ row. not (p row || q row)) rows
without_both p q [] = refl
without_both p q (row ∷ rows) = elim (cases_Bool (p row)) [
  | inl t ↦ rw t (without_both p q rows)
  | inr t ↦ elim (cases_Bool (q row)) [
    | inl u ↦ rw (t, u) (without_both p q rows)
    | inr u ↦ rw (t, u) (ap (λ xs. row ∷ xs) (without_both p q rows))
  ]
]

all_left : (rows : List MemberRow) → filter (λ (row : MemberRow). true) rows ≡ rows
all_left [] = refl
all_left (row ∷ rows) = ap (λ xs. row ∷ xs) (all_left rows)

pub gone_is : (rs : List PersonRow) (rows : List MemberRow) → gone rs rows ≡ filter (λ (row : MemberRow). not (is_of_rows rs row)) rows
gone_is [] rows = sym (all_left rows)
gone_is (r ∷ rs) rows = gone_is rs (without r rows) ∙ without_both (is_it r) (is_of_rows rs) rows

not_either : (x s t : Bool) → ((x && not s) && not t) ≡ (x && not (s || t))
not_either true true t = refl
not_either true false t = refl
not_either false s t = refl

-- who is gone isn't there, and all others are as they were
stands_gone : (rs : List PersonRow) (rows : List MemberRow) (q : PersonRow) → stands (gone rs rows) q ≡ (stands rows q && not (is_one_of rs q))
stands_gone [] rows q = and_true (stands rows q)
  where
    and_true : (x : Bool) → x ≡ (x && true)
    and_true true = refl
    and_true false = refl
stands_gone (r ∷ rs) rows q =
    stands_gone rs (without r rows) q
    ∙ (ap (λ b. b && not (is_one_of rs q)) (stands_without r q rows ∙ ap (λ s. stands rows q && not s) (row_turned r q))
    ∙ not_either (stands rows q) (same_row q r) (is_one_of rs q))

-- ---- rows come

abbrev pub come : ℕ → List PersonRow → List MemberRow
come at rs = map (new_row at) rs

pub after_come : (at : ℕ) (rs : List PersonRow) (f : Lists) → all_happened (map (row_comes at) rs) f ≡ record f { rows = f.rows ++ come at rs }
after_come at [] f = ap (λ (rows : List MemberRow). record f { rows = rows }) (sym (append-nil f.rows))
after_come at (r ∷ rs) f = after_come at rs (happened (row_comes at r) f) ∙ ap (λ (rows : List MemberRow). record f { rows = rows }) (append_assoc f.rows (new_row at r ∷ []) (come at rs))

-- a row can come: its group and its person stand, and the group is no composite
pub record CanCome (gs : List GroupRow) (ss : List SubjectRow) (cs : List CompositeRow) (r : PersonRow) : Type 0 where
  pub group : has_group r.group gs ≡ true
  pub person : has_subject r.person ss ≡ true
  pub plain : is_composite r.group cs ≡ false

stands_more : (at : ℕ) (r q : PersonRow) (rows : List MemberRow) → stands rows q ≡ false → same_row r q ≡ false → stands (rows ++ new_row at r ∷ []) q ≡ false
stands_more at r q rows h other = list_any-append (is_it q) rows (new_row at r ∷ []) ∙ or_from (stands rows q) (same_row r q || false) h (or_from (same_row r q) false other refl)

none_stands : (at : ℕ) (r : PersonRow) (rs : List PersonRow) (rows : List MemberRow) → is_one_of rs r ≡ false → list_any (stands rows) rs ≡ false → list_any (stands (rows ++ new_row at r ∷ [])) rs ≡ false
none_stands at r [] rows once h = refl
none_stands at r (q ∷ rs) rows once h =
    let other = or_parts (same_row r q) (is_one_of rs r) once in
    let parts = or_parts (stands rows q) (list_any (stands rows) rs) h in
    or_from (stands (rows ++ new_row at r ∷ []) q) (list_any (stands (rows ++ new_row at r ∷ [])) rs) (stands_more at r q rows parts.0 other.0) (none_stands at r rs rows other.1 parts.1)

pub come_suit : (at : ℕ) (rs : List PersonRow) (f : Lists) → AllByRecursion (CanCome f.groups f.subjects f.composites) rs → list_any (stands f.rows) rs ≡ false → comes_twice rs ≡ false → length f.rows + length rs ≤ max_rows → AllSuit (map (row_comes at) rs) f
come_suit at [] f can none once room = tt
come_suit at (r ∷ rs) f can none once room =
    let apart = or_parts (is_one_of rs r) (comes_twice rs) once in
    let parts = or_parts (stands f.rows r) (list_any (stands f.rows) rs) none in
    let more = length-append f.rows (new_row at r ∷ []) in (
      (record { group = can.0.group; member = tt }, can.0.person, parts.0, can.0.plain, omega (arith, room)),
      come_suit at rs (happened (row_comes at r) f) can.1 (none_stands at r rs f.rows apart.0 parts.1) apart.1 (omega (arith, room, more)),
    )

-- ---- rows go and come

none_after : (removed : List PersonRow) (rows : List MemberRow) (added : List PersonRow) → list_any (stands rows) added ≡ false → list_any (stands (gone removed rows)) added ≡ false
none_after removed rows [] h = refl
none_after removed rows (q ∷ added) h =
    let parts = or_parts (stands rows q) (list_any (stands rows) added) h in
    or_from (stands (gone removed rows) q) (list_any (stands (gone removed rows)) added) (stands_gone removed rows q ∙ rw parts.0 refl) (none_after removed rows added parts.1)

pub rows_suit : (at : ℕ) (removed added : List PersonRow) (f : Lists) → list_all (stands f.rows) removed ≡ true → comes_twice removed ≡ false → AllByRecursion (CanCome f.groups f.subjects f.composites) added → list_any (stands f.rows) added ≡ false → comes_twice added ≡ false
    → length f.rows + length added ≤ max_rows + length removed → AllSuit (rows_events at removed added) f
rows_suit at removed added f all once can none apart room =
    let less = gone_length removed f.rows all once in
    suit_append (map row_goes removed) (map (row_comes at) added) f (gone_suit removed f all once) (subst (λ (g : Lists). AllSuit (map (row_comes at) added) g) (sym (after_gone removed f))
    (come_suit at added (record f { rows = gone removed f.rows }) can (none_after removed f.rows added none) apart (omega (arith, room, less))))

pub rows_after : (at : ℕ) (removed added : List PersonRow) (f : Lists) → all_happened (rows_events at removed added) f ≡ record f { rows = loaded_rows at removed added f.rows }
rows_after at removed added f =
    happened_append (map row_goes removed) (map (row_comes at) added) f
    ∙ (ap (λ g. all_happened (map (row_comes at) added) g) (after_gone removed f)
    ∙ (after_come at added (record f { rows = gone removed f.rows })
    ∙ ap (λ (rows : List MemberRow). record f { rows = rows ++ come at added }) (gone_is removed f.rows)))

-- ---- what that leaves of the rows

among_come : (at : ℕ) (added : List PersonRow) (q : PersonRow) → stands (come at added) q ≡ is_one_of added q
among_come at [] q = refl
among_come at (r ∷ added) q = rw (row_turned r q, among_come at added q) refl

groups_without : (r : PersonRow) (rows : List MemberRow) → filter (λ (row : MemberRow). is_groups row.member) (without r rows) ≡ filter (λ (row : MemberRow). is_groups row.member) rows
groups_without r [] = refl
groups_without r (row ∷ rows) = elim (cases_Bool (is_it r row)) [
  | inl t ↦ rw (t, persons row.member (and_parts (row.group == r.group) (same_member row.member (Person r.person)) t).1) (groups_without r rows)
  | inr t ↦ rw (t, groups_without r rows) refl
]
  where
    persons : (m : Member) → same_member m (Person r.person) ≡ true → is_groups m ≡ false
    persons (Person p) h = refl
    persons (Group g) h = absurd (both_ways false refl h)

groups_gone : (rs : List PersonRow) (rows : List MemberRow) → filter (λ (row : MemberRow). is_groups row.member) (gone rs rows) ≡ filter (λ (row : MemberRow). is_groups row.member) rows
groups_gone [] rows = refl
groups_gone (r ∷ rs) rows = groups_gone rs (without r rows) ∙ groups_without r rows

no_groups : (at : ℕ) (rs : List PersonRow) → filter (λ (row : MemberRow). is_groups row.member) (come at rs) ≡ []
no_groups at [] = refl
no_groups at (r ∷ rs) = no_groups at rs

pub rows_loaded : (at : ℕ) (removed added : List PersonRow) (rows : List MemberRow) → AreLoaded removed added rows (loaded_rows at removed added rows)
rows_loaded at removed added rows = rw (← gone_is removed rows) (record {
  persons = λ q. list_any-append (is_it q) (gone removed rows) (come at added) ∙ rw (stands_gone removed rows q, among_come at added q) refl;
  groups = filter-append (λ (row : MemberRow). is_groups row.member) (gone removed rows) (come at added) ∙ (rw (no_groups at added) (append-nil _) ∙ groups_gone removed rows);
})
