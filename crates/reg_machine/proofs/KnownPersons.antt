-- Who was a member of a group at a moment up to the clock is a person that stands.
use Rattle.std.proofs.Common.{◌≡◌, ◌≤◌, ◌<◌, ◌==◌, ◌&&◌, ◌||◌, ℕ, zero, suc, List, Option, [], ◌∷◌, ◌++◌, Bool, true, false, None, Some, nat_le, arith, refl, sym, ◌∙◌, ap, subst, inl, inr, eqb-true, eq-eqb}
use Rattle.std.proofs.lemmas.Bool.{cases_Bool, and_parts, or_cases, or_left, or_right}
use Rattle.std.proofs.lemmas.Bool.Decides.{nat_tests}
use Rattle.std.specs.List.{list_any, AllByRecursion}
use Rattle.reg_base.specs.declared.entity.Entity.{Entity}
use Rattle.reg_terms.specs.declared.command.Stamped.{Stamped}
use Rattle.reg_terms.specs.declared.command.Command.{Command}
use Rattle.reg_terms.specs.declared.event.Event.{Event}
use Rattle.reg_terms.specs.declared.event.Event.TheVariants.{FolderMade, FolderRenamed, FolderMoved, FolderGone, GroupMade, GroupRenamed, GroupMoved, GroupGone, RowAdded, RowRemoved, RowRedated, Composed, Decomposed, GrantAdded, GrantBegan, GrantRemoved, InheritAdded, InheritRemoved, DefinitionMade, DefinitionGone, AttributeMade, AttributeGone, AssignMade, AssignGone, ValueAdded, ValueRemoved, RuleMade, RuleGone, JobMade, JobGone, ConsumerAdded, ConsumerAcked, SubjectMade}
use Rattle.reg_terms.specs.declared.kinds.Member.{Member}
use Rattle.reg_terms.specs.declared.kinds.Member.TheVariants.{Person, Group}
use Rattle.reg_terms.specs.declared.kinds.SetOp.{SetOp}
use Rattle.reg_terms.specs.declared.kinds.SetOp.TheVariants.{Intersection, Complement, Union}
use Rattle.reg_terms.specs.declared.rows.CompositeRow.{CompositeRow}
use Rattle.reg_terms.specs.declared.rows.MemberRow.{MemberRow}
use Rattle.reg_terms.specs.declared.rows.SubjectRow.{SubjectRow}
use Rattle.reg_terms.specs.Kinds.{same_member}
use Rattle.reg_terms.specs.Rows.{is_composite, is_row}
use Rattle.reg_facts.specs.Events.{all_happened, edit, events_of, happened}
use Rattle.reg_facts.specs.Lists.{Lists}
use Rattle.reg_facts.specs.Sound.{has_subject, IsKnown, IsSound}
use Rattle.reg_effect.specs.declared.live.Live.{Live}
use Rattle.reg_effect.specs.Deltas.{ended}
use Rattle.reg_effect.specs.Member.{combine, gives, in_rows, in_factors, member_in, member, entries}
use Rattle.reg_effect.specs.Order.{has_live_row}
use Rattle.reg_effect.proofs.LiveOf.{rows_on_has}
use Rattle.reg_rules.specs.Settling.{settle}
use Rattle.reg_current.specs.Dates.{date_passed, due, pass, at_date}
use Rattle.reg_machine.specs.History.{acted, facts}
use Rattle.reg_machine.specs.Invariant.{IsBy}
use Rattle.reg_current.specs.Live.{live}
use Rattle.reg_machine.specs.Past.{AreKnown}
use Rattle.reg_machine.proofs.Lived.{facts_earlier, none_before, none_within, still}
use Rattle.reg_machine.proofs.Moments.{facts_push, next_comes, none_comes}
use Rattle.reg_machine.proofs.Settled.{settle_is}

-- ---- a member is named by a row

-- whether a row names the person
abbrev names_person : ℕ → List (ℕ × Member) → Bool
names_person s rows = list_any (λ (row : ℕ × Member). same_member (Person s) row.1) rows

person_named : (M : ℕ → Bool) (s : ℕ) (m : Member) (all : Bool) → ((h : ℕ) → M h ≡ true → all ≡ true) → (same_member (Person s) m ≡ true → all ≡ true) → gives M s m ≡ true → all ≡ true
person_named M s (Person p) all below here h = here (let e = eqb-true p s h in rw e (same_person s))
  where
    same_person : (s : ℕ) → same_member (Person s) (Person s) ≡ true
    same_person s = eq-eqb s s refl
person_named M s (Group g) all below here h = below g h

rows_named : (M : ℕ → Bool) (g s : ℕ) (rows : List (ℕ × Member)) (all : Bool) → ((h : ℕ) → M h ≡ true → all ≡ true) → (names_person s rows ≡ true → all ≡ true) → in_rows M rows g s ≡ true → all ≡ true
rows_named M g s [] all below here h = cc
rows_named M g s (row ∷ rows) all below here h = elim (or_cases ((row.0 == g) && gives M s row.1) (in_rows M rows g s) h) [
  | inl one ↦ person_named M s row.1 all below (λ e. here (or_left (same_member (Person s) row.1) (names_person s rows) e)) (and_parts (row.0 == g) (gives M s row.1) one).1
  | inr more ↦ rows_named M g s rows all below (λ e. here (or_right (same_member (Person s) row.1) (names_person s rows) e)) more
]

-- who a composite has is in one of its factors
combined : (op : SetOp) (a b all : Bool) → (a ≡ true → all ≡ true) → (b ≡ true → all ≡ true) → combine op a b ≡ true → all ≡ true
combined Intersection true b all left right h = left refl
combined Intersection false b all left right h = cc
combined Complement true b all left right h = left refl
combined Complement false b all left right h = cc
combined Union true b all left right h = left refl
combined Union false b all left right h = right h

factors_named : (M : ℕ → Bool) (g : ℕ) (cs : List CompositeRow) (all : Bool) → ((h : ℕ) → M h ≡ true → all ≡ true) → in_factors M cs g ≡ true → all ≡ true
factors_named M g [] all below h = cc
factors_named M g (c ∷ cs) all below h = elim (or_cases ((c.group == g) && combine c.op (M c.left) (M c.right)) (in_factors M cs g) h) [
  | inl one ↦ combined c.op (M c.left) (M c.right) all (below c.left) (below c.right) (and_parts (c.group == g) (combine c.op (M c.left) (M c.right)) one).1
  | inr more ↦ factors_named M g cs all below more
]

level_named : (n : ℕ) (L : Live) (g s : ℕ) → member_in n L g s ≡ true → names_person s L.rows ≡ true
level_named zero L g s h = cc
level_named (suc n) L g s h = elim (cases_Bool (is_composite g L.composites)) [
  | inl y ↦ factors_named (λ x. member_in n L x s) g L.composites (names_person s L.rows) (λ x e. level_named n L x s e) (rw y at h)
  | inr other ↦ rows_named (λ x. member_in n L x s) g s L.rows (names_person s L.rows) (λ x e. level_named n L x s e) (λ e. e) (rw other at h)
]

pub member_named : (L : Live) (g s : ℕ) → member L g s ≡ true → names_person s L.rows ≡ true
unfolding member
member_named L g s h = level_named (suc (entries L)) L g s h

-- ---- and that row is one of the facts, whose person stands

turned_person : (s : ℕ) (m : Member) → same_member (Person s) m ≡ true → same_member m (Person s) ≡ true
turned_person s (Person p) h = let e = eqb-true s p h in rw e (rw e at h)
turned_person s (Group g) h = cc

named_live : (s : ℕ) (rows : List (ℕ × Member)) → names_person s rows ≡ true → (g : ℕ) × (has_live_row g (Person s) rows ≡ true)
named_live s [] h = cc
named_live s (row ∷ rows) h = elim (or_cases (same_member (Person s) row.1) (names_person s rows) h) [
  | inl one ↦ (row.0, or_left ((row.0 == row.0) && same_member row.1 (Person s)) (has_live_row row.0 (Person s) rows) (rw (turned_person s row.1 one) (same row.0)))
  | inr more ↦ let found = named_live s rows more in (found.0, or_right ((row.0 == found.0) && same_member row.1 (Person s)) (has_live_row found.0 (Person s) rows) found.1)
]
  where
    same : (g : ℕ) → ((g == g) && true) ≡ true
    same g = rw (eq-eqb g g refl) refl

person_known : (s : ℕ) (m : Member) (ss : List SubjectRow) → same_member m (Person s) ≡ true → IsKnown ss m → has_subject s ss ≡ true
person_known s (Person p) ss e h = let same = eqb-true p s e in rw same at h
person_known s (Group g) ss e h = cc

row_known : (u g s : ℕ) (rows : List MemberRow) (ss : List SubjectRow) → list_any (λ (row : MemberRow). nat_le row.from u && is_row g (Person s) row) rows ≡ true → AllByRecursion (λ (row : MemberRow). IsKnown ss row.member) rows → has_subject s ss ≡ true
row_known u g s [] ss h known = cc
row_known u g s (row ∷ rows) ss h known = elim (or_cases (nat_le row.from u && is_row g (Person s) row) (list_any (λ (row : MemberRow). nat_le row.from u && is_row g (Person s) row) rows) h) [
  | inl one ↦ person_known s row.member ss (and_parts (row.group == g) (same_member row.member (Person s)) (and_parts (nat_le row.from u) (is_row g (Person s) row) one).1).1 known.0
  | inr more ↦ row_known u g s rows ss more known.1
]

-- at the moment itself
known_at : (t g s : ℕ) (f : Lists) → IsSound f → member (live t f) g s ≡ true → has_subject s f.subjects ≡ true
known_at t g s f sound h =
    let found = named_live s (live t f).rows (member_named (live t f) g s h) in
    let any = list_any (λ (row : MemberRow). nat_le row.from t && is_row found.0 (Person s) row) f.rows in
    row_known t found.0 s f.rows f.subjects (sym (neither any) ∙ (sym (rows_on_has t found.0 (Person s) f.rows []) ∙ found.1)) sound.known
  where
    neither : (x : Bool) → (x || false) ≡ x
    neither true = refl
    neither false = refl

-- ---- persons stay

subject_pushed : (s : ℕ) (ss : List SubjectRow) (row : SubjectRow) → has_subject s ss ≡ true → has_subject s (ss ++ row ∷ []) ≡ true
subject_pushed s [] row h = cc
subject_pushed s (r ∷ ss) row h = elim (or_cases (r.id == s) (has_subject s ss) h) [
  | inl one ↦ or_left (r.id == s) (has_subject s (ss ++ row ∷ [])) one
  | inr more ↦ or_right (r.id == s) (has_subject s (ss ++ row ∷ [])) (subject_pushed s ss row more)
]

stays : (e : Event) (f : Lists) (s : ℕ) → has_subject s f.subjects ≡ true → has_subject s (happened e f).subjects ≡ true
stays (SubjectMade row) f s h = subject_pushed s f.subjects row h
stays (FolderMade row) f s h = h
stays (FolderRenamed d x) f s h = h
stays (FolderMoved d to) f s h = h
stays (FolderGone d) f s h = h
stays (GroupMade row) f s h = h
stays (GroupRenamed g x) f s h = h
stays (GroupMoved g to) f s h = h
stays (GroupGone g) f s h = h
stays (RowAdded row) f s h = h
stays (RowRemoved g m) f s h = h
stays (RowRedated g m from until) f s h = h
stays (Composed row) f s h = h
stays (Decomposed g) f s h = h
stays (GrantAdded row) f s h = h
stays (GrantBegan row) f s h = h
stays (GrantRemoved row) f s h = h
stays (InheritAdded row) f s h = h
stays (InheritRemoved row) f s h = h
stays (DefinitionMade row) f s h = h
stays (DefinitionGone id) f s h = h
stays (AttributeMade row) f s h = h
stays (AttributeGone id) f s h = h
stays (AssignMade row) f s h = h
stays (AssignGone id) f s h = h
stays (ValueAdded id v) f s h = h
stays (ValueRemoved id v) f s h = h
stays (RuleMade row) f s h = h
stays (RuleGone id) f s h = h
stays (JobMade row) f s h = h
stays (JobGone id) f s h = h
stays (ConsumerAdded row) f s h = h
stays (ConsumerAcked name seq) f s h = h

all_stay : (es : List Event) (f : Lists) (s : ℕ) → has_subject s f.subjects ≡ true → has_subject s (all_happened es f).subjects ≡ true
all_stay [] f s h = h
all_stay (e ∷ es) f s h = all_stay es (happened e f) s (stays e f s h)

-- and so they do when rules act
settle_subjects : (pairs : List (ℕ × ℕ)) (at : ℕ) (f : Lists) → (settle pairs at f).subjects ≡ f.subjects
settle_subjects pairs at f = ap (λ (x : Lists). x.subjects) (settle_is pairs at f)

date_subjects : (a d : ℕ) (f : Lists) → (date_passed a d f).subjects ≡ f.subjects
date_subjects a d f = settle_subjects (ended (live a f) (live d (at_date d f))) d (at_date d f)

acted_subjects : (at : ℕ) (by : Entity) (command : Command) (f : Lists) → (acted at by command f).subjects ≡ (edit at by command f).subjects
acted_subjects at by command f = settle_subjects (ended (live at f) (live at (edit at by command f))) at (edit at by command f)

-- ---- who was a member stands

-- a clock up to which no date comes
pub known_later : (history : List Stamped) (t u : ℕ) → AllByRecursion (IsBy t) history → AreKnown history t → t ≤ u → due t u (facts history t) ≡ None → AreKnown history u
known_later history t u by h w none v g s x was = rw (none_comes t u history by w none) (elim (cases_Bool (nat_le v t)) [
  | inl y ↦ h v g s (grind (arith, nat_tests, y)) was
  | inr n ↦
      let later : t ≤ v = grind (arith, nat_tests, n) in
      h t g s (omega arith) (subst (λ (L : Live). member L g s ≡ true) (still history t v by later (none_within t u v (facts history t) none x)) was)
])

-- the next date
pub known_next : (history : List Stamped) (t d : ℕ) → AllByRecursion (IsBy t) history → AreKnown history t → due t d (facts history t) ≡ Some d → IsSound (facts history d) → AreKnown history d
known_next history t d by h first sound v g s x was = elim (cases_Bool (nat_le d v)) [
  | inl y ↦
      let same : v ≡ d = grind (arith, nat_tests, y, x) in
      known_at d g s (facts history d) sound (rw same at was)
  | inr n ↦
      let less : v < d = grind (arith, nat_tests, n) in
      let kept : (facts history d).subjects ≡ (facts history t).subjects = ap (λ (f : Lists). f.subjects) (next_comes t d d history by first) ∙ date_subjects t d (facts history t) in
      subst (λ ss. has_subject s ss ≡ true) (sym kept) (elim (cases_Bool (nat_le v t)) [
        | inl y ↦ h v g s (grind (arith, nat_tests, y)) was
        | inr m ↦
            let later : t ≤ v = grind (arith, nat_tests, m) in
            h t g s (omega arith) (subst (λ (L : Live). member L g s ≡ true) (still history t v by later (none_before t d v (facts history t) first less)) was)
      ])
]

-- a command more
pub known_push : (history : List Stamped) (at : ℕ) (by : Entity) (key : Option (List ℕ)) (command : Command) → AllByRecursion (IsBy at) history → AreKnown history at
    → IsSound (facts (history ++ (record { at = at; by = by; key = key; command = command }) ∷ []) at) → AreKnown (history ++ (record { at = at; by = by; key = key; command = command }) ∷ []) at
known_push history at by key command are h sound v g s x was = elim (cases_Bool (nat_le at v)) [
  | inl y ↦
      let same : v ≡ at = grind (arith, nat_tests, y, x) in
      known_at at g s (facts (history ++ (record { at = at; by = by; key = key; command = command }) ∷ []) at) sound (rw same at was)
  | inr n ↦
      let less : v < at = grind (arith, nat_tests, n) in
      let f : Lists = facts history at in
      let kept : (facts (history ++ (record { at = at; by = by; key = key; command = command }) ∷ []) at).subjects ≡ (edit at by command f).subjects = ap (λ (k : Lists). k.subjects) (facts_push at by key command history are) ∙ acted_subjects at by command f in
      subst (λ ss. has_subject s ss ≡ true) (sym kept) (all_stay (events_of at by command f) f s (h v g s (omega (arith, less)) (subst (λ (k : Lists). member (live v k) g s ≡ true) (facts_earlier history at v by key command less) was)))
]

pub known_start : AreKnown [] 0
unfolding facts pass
known_start v g s x was =
    let named : names_person s [] ≡ true = member_named (live v (facts [] v)) g s was in
    cc
