-- What is noted of a group, person by person, and of groups, one after another.
use Rattle.std.proofs.Common.{◌≡◌, ◌+◌, ◌≤◌, ◌<◌, ◌==◌, ◌⊎◌, ℕ, zero, suc, List, [], ◌∷◌, Bool, true, false, Option, Some, None, length, get_or, take, drop, map, if◌then◌else◌, arith, refl, sym, ◌∙◌, ap, subst, inl, inr, length-drop}
use Rattle.std.proofs.lemmas.Bool.{cases_Bool, cases_eq, eqb-true, ne_eqb, and_left, and_right}
use Rattle.std.proofs.lemmas.Option.{same_Some}
use Rattle.std.specs.List.{AllByRecursion, slice_get}
use Rattle.reg_prov.specs.declared.boundary.Boundary.{Boundary}
use Rattle.reg_prov.specs.declared.past.GroupPast.{GroupPast}
use Rattle.reg_prov.specs.declared.turn.Turn.{Turn}
use Rattle.reg_prov.specs.Notes.{OthersStay}
use Rattle.reg_prov.specs.Pasts.{AreByGroup, want_in}
use Rattle.reg_pit.specs.Spans.{covers}
use Rattle.reg_prov.specs.Spans.{ByPerson, spans_in, wished}
use Rattle.reg_prov.specs.Steps.{change_at, change_in}
use Rattle.reg_prov.specs.Turns.{change, held, turn_at}
use Rattle.reg_prov.proofs.Rows.{Row, span, front, front_is, front_least, front_some, first_has, others_behind, behind_ordered}

-- ---- wishes that are the same at each moment

held_same : (a b : ℕ → Bool) (o : Option ℕ) → ((t : ℕ) → a t ≡ b t) → held a o ≡ held b o
held_same a b None h = refl
held_same a b (Some t) h = h t

change_in_same : (a b : ℕ → Bool) (x : Boundary) → ((t : ℕ) → a t ≡ b t) → change_in a x ≡ change_in b x
change_in_same a b x h = ap (λ (was : Bool). change was (a x.at)) (held_same a b x.before h) ∙ ap (λ (now : Bool). change (held b x.before) now) (h x.at)

pub change_at_same : (a b : ℕ → Bool) (bs : List Boundary) (n : ℕ) → ((t : ℕ) → a t ≡ b t) → change_at a bs n ≡ change_at b bs n
change_at_same a b [] n h = refl
change_at_same a b (x ∷ bs) n h = elim (cases_Bool (x.number == n)) [
  | inl y ↦ rw y (change_in_same a b x h)
  | inr f ↦ rw f (change_at_same a b bs n h)
]

held_none : (o : Option ℕ) → held (λ t. false) o ≡ false
held_none None = refl
held_none (Some t) = refl

pub change_at_none : (bs : List Boundary) (n : ℕ) → change_at (λ t. false) bs n ≡ None
change_at_none [] n = refl
change_at_none (x ∷ bs) n = elim (cases_Bool (x.number == n)) [
  | inl y ↦ rw y (ap (λ (was : Bool). change was false) (held_none x.before))
  | inr f ↦ rw f (change_at_none bs n)
]

no_member : (grants : List (ℕ × Option ℕ)) (t : ℕ) → wished grants [] t ≡ false
no_member grants t = and_right (covers grants t) false refl

-- ---- a group

-- a person's turns aren't noted, and all its rows are left, or they are, and none is left
abbrev pub PersonNoted : List (ℕ × Option ℕ) → List Boundary → ℕ → List Row → List Row → List Turn → ℕ → Type 0
PersonNoted grants bs group rows rest turns s =
    ((spans_in s rest ≡ spans_in s rows) × ((n : ℕ) → turn_at turns n group s ≡ None))
    ⊎ ((spans_in s rest ≡ []) × ((n : ℕ) → turn_at turns n group s ≡ change_at (wished grants (spans_in s rows)) bs n))

pub record GroupNoted (grants : List (ℕ × Option ℕ)) (bs : List Boundary) (group : ℕ) (rows rest : List Row) (old new : List Turn) : Type 0 where
  pub ordered : ByPerson rest
  pub each : (s : ℕ) → PersonNoted grants bs group rows rest new s
  pub others : (n g s : ℕ) → (group == g) ≡ false → turn_at new n g s ≡ turn_at old n g s

pub none_grouped : (grants : List (ℕ × Option ℕ)) (bs : List Boundary) (group : ℕ) (rows : List Row) (turns : List Turn) → ByPerson rows → ((n s : ℕ) → turn_at turns n group s ≡ None) → GroupNoted grants bs group rows rows turns turns
none_grouped grants bs group rows turns up none = record { ordered = up; each = λ s. inl (refl, λ n. none n s); others = λ n g s e. refl }

module _ (grants : List (ℕ × Option ℕ)) (bs : List Boundary) (group : ℕ) (rows : List Row) (row : Row) (later : List Row) (old new after : List Turn) (h : GroupNoted grants bs group rows (row ∷ later) old new) where
  abbrev count : ℕ
  count = front row.0 (row ∷ later)

  first_left : (spans_in row.0 (row ∷ later) ≡ spans_in row.0 rows) × ((n : ℕ) → turn_at new n group row.0 ≡ None)
  first_left = elim (h.each row.0) [ inl a ↦ a | inr b ↦ absurd (first_has row later b.0) ]

  pub first_new : (n : ℕ) → turn_at new n group row.0 ≡ None
  first_new = first_left.1

  pub person_grouped : (members : List (ℕ × Option ℕ)) → members ≡ map span (take count (row ∷ later)) → ((n : ℕ) → turn_at after n group row.0 ≡ change_at (wished grants members) bs n) → OthersStay group row.0 new after → GroupNoted grants bs group rows (drop count (row ∷ later)) old after
  person_grouped members are noted stay = record {
    ordered = behind_ordered count (row ∷ later) h.ordered;
    each = λ s. elim (cases_eq row.0 s) [ inl e ↦ subst (λ (x : ℕ). PersonNoted grants bs group rows (drop count (row ∷ later)) after x) e this | inr ne ↦ other s ne (h.each s) ];
    others = λ n g s e. stay n g s (and_left (group == g) (row.0 == s) e) ∙ h.others n g s e;
  }
    where
      cut : (map span (take count (row ∷ later)) ≡ spans_in row.0 (row ∷ later)) × (spans_in row.0 (drop count (row ∷ later)) ≡ [])
      cut = front_is row.0 (row ∷ later) (front_least row later h.ordered) h.ordered

      this : PersonNoted grants bs group rows (drop count (row ∷ later)) after row.0
      this = inr (cut.1, λ n. noted n ∙ ap (λ (l : List (ℕ × Option ℕ)). change_at (wished grants l) bs n) (are ∙ (cut.0 ∙ first_left.0)))

      other : (s : ℕ) → (row.0 ≡ s → ⊥) → PersonNoted grants bs group rows (row ∷ later) new s → PersonNoted grants bs group rows (drop count (row ∷ later)) after s
      other s ne (inl a) = inl (others_behind row.0 s (row ∷ later) ne ∙ a.0, λ n. stay n group s (and_right (group == group) (row.0 == s) (ne_eqb row.0 s ne)) ∙ a.1 n)
      other s ne (inr b) = inr (others_behind row.0 s (row ∷ later) ne ∙ b.0, λ n. stay n group s (and_right (group == group) (row.0 == s) (ne_eqb row.0 s ne)) ∙ b.1 n)

  pub fewer_left : length (drop count (row ∷ later)) < length (row ∷ later)
  fewer_left = let some : 1 ≤ count = front_some row later in omega (arith, length-drop count (row ∷ later), some)

first_row : (rest : List Row) (row : Row) → Some row ≡ slice_get rest 0 → rest ≡ row ∷ drop 1 rest
first_row [] row e = absurd (cc)
first_row (x ∷ rest) row e = let same : x ≡ row = same_Some x row (sym e) in ap (λ (r : Row). r ∷ rest) same

no_rows : (rest : List Row) → None ≡ slice_get rest 0 → rest ≡ []
no_rows [] e = refl
no_rows (x ∷ rest) e = absurd (cc)

module _ (grants : List (ℕ × Option ℕ)) (bs : List Boundary) (group : ℕ) (rows rest : List Row) (row : Row) (old new : List Turn) (first : Some row ≡ slice_get rest 0) (h : GroupNoted grants bs group rows rest old new) where
  as_first : GroupNoted grants bs group rows (row ∷ drop 1 rest) old new
  as_first = subst (λ (l : List Row). GroupNoted grants bs group rows l old new) (first_row rest row first) h

  pub rest_new : (n : ℕ) → turn_at new n group row.0 ≡ None
  rest_new = first_new grants bs group rows row (drop 1 rest) old new new as_first

  pub rest_grouped : (after : List Turn) (members : List (ℕ × Option ℕ)) (back : List Row) (k : ℕ) → k ≡ front row.0 rest → members ≡ map span (take k rest) → back ≡ drop k rest
      → ((n : ℕ) → turn_at after n group row.0 ≡ change_at (wished grants members) bs n) → OthersStay group row.0 new after → GroupNoted grants bs group rows back old after
  rest_grouped after members back k counted are behind noted stay =
      let whole : rest ≡ row ∷ drop 1 rest = first_row rest row first in
      let members_are : members ≡ map span (take (front row.0 (row ∷ drop 1 rest)) (row ∷ drop 1 rest)) = subst (λ (l : List Row). members ≡ map span (take (front row.0 l) l)) whole (subst (λ (i : ℕ). members ≡ map span (take i rest)) counted are) in
      let back_is : back ≡ drop (front row.0 (row ∷ drop 1 rest)) (row ∷ drop 1 rest) = subst (λ (l : List Row). back ≡ drop (front row.0 l) l) whole (subst (λ (i : ℕ). back ≡ drop i rest) counted behind) in
      subst (λ (l : List Row). GroupNoted grants bs group rows l old after) (sym back_is) (person_grouped grants bs group rows row (drop 1 rest) old new after as_first members members_are noted stay)

pub all_grouped : (grants : List (ℕ × Option ℕ)) (bs : List Boundary) (group : ℕ) (rows : List Row) (old new : List Turn) → GroupNoted grants bs group rows [] old new → (n s : ℕ) → turn_at new n group s ≡ change_at (wished grants (spans_in s rows)) bs n
all_grouped grants bs group rows old new h n s = elim (h.each s) [
  | inl a ↦
      a.1 n ∙ sym (ap (λ (l : List (ℕ × Option ℕ)). change_at (wished grants l) bs n) (sym a.0)
      ∙ (change_at_same (wished grants []) (λ t. false) bs n (no_member grants) ∙ change_at_none bs n))
  | inr b ↦ b.1 n
]

pub rest_done : (grants : List (ℕ × Option ℕ)) (bs : List Boundary) (group : ℕ) (rows rest : List Row) (old new : List Turn) → None ≡ slice_get rest 0 → GroupNoted grants bs group rows rest old new → (n s : ℕ) → turn_at new n group s ≡ change_at (wished grants (spans_in s rows)) bs n
rest_done grants bs group rows rest old new none h = all_grouped grants bs group rows old new (subst (λ (l : List Row). GroupNoted grants bs group rows l old new) (no_rows rest none) h)

-- ---- groups

past_later : (group : ℕ) (pasts : List GroupPast) (i : ℕ) (past : GroupPast) → i < length pasts → past ≡ get_or pasts i past → AllByRecursion (λ (later : GroupPast). group < later.group) pasts → group < past.group
past_later group [] i past w e h = absurd (omega arith)
past_later group (p ∷ pasts) zero past w e h = let first : past ≡ p = e in subst (λ (x : GroupPast). group < x.group) (sym first) h.0
past_later group (p ∷ pasts) (suc i) past w e h = past_later group pasts i past (omega arith) e h.1

pub past_ordered : (pasts : List GroupPast) (i : ℕ) (past : GroupPast) → i < length pasts → past ≡ get_or pasts i past → AreByGroup pasts → ByPerson past.members.items
past_ordered [] i past w e h = absurd (omega arith)
past_ordered (p ∷ pasts) zero past w e h = let first : past ≡ p = e in subst (λ (x : GroupPast). ByPerson x.members.items) (sym first) h.1
past_ordered (p ∷ pasts) (suc i) past w e h = past_ordered pasts i past (omega arith) e h.2

-- a group isn't among those before it
pub past_new : (pasts : List GroupPast) (i : ℕ) (past : GroupPast) → i < length pasts → past ≡ get_or pasts i past → AreByGroup pasts → (t s : ℕ) → want_in (take i pasts) t past.group s ≡ false
past_new [] i past w e h t s = absurd (omega arith)
past_new (p ∷ pasts) zero past w e h t s = refl
past_new (p ∷ pasts) (suc i) past w e h t s =
    let earlier : p.group < past.group = past_later p.group pasts i past (omega arith) e h.0 in
    let other : (p.group == past.group) ≡ false = ne_eqb p.group past.group (λ same. absurd (omega (arith, same, earlier))) in
    rw other (past_new pasts i past (omega arith) e h.2 t s)

pub past_more : (pasts : List GroupPast) (i : ℕ) (past : GroupPast) → i < length pasts → past ≡ get_or pasts i past → AreByGroup pasts → (t g s : ℕ)
    → want_in (take (i + 1) pasts) t g s ≡ (if past.group == g then wished past.grants.items (spans_in s past.members.items) t else want_in (take i pasts) t g s)
past_more [] i past w e h t g s = absurd (omega arith)
past_more (p ∷ pasts) zero past w e h t g s = let first : past ≡ p = e in rw first refl
past_more (p ∷ pasts) (suc i) past w e h t g s =
    let up : suc i + 1 ≡ suc (i + 1) = omega arith in
    let earlier : p.group < past.group = past_later p.group pasts i past (omega arith) e h.0 in
    rw up (by_group (cases_Bool (p.group == g)) (past_more pasts i past (omega arith) e h.2 t g s) earlier)
  where
    by_group : ((p.group == g) ≡ true) ⊎ ((p.group == g) ≡ false) → want_in (take (i + 1) pasts) t g s ≡ (if past.group == g then wished past.grants.items (spans_in s past.members.items) t else want_in (take i pasts) t g s) → p.group < past.group
        → (if p.group == g then wished p.grants.items (spans_in s p.members.items) t else want_in (take (i + 1) pasts) t g s)
        ≡ (if past.group == g then wished past.grants.items (spans_in s past.members.items) t
        else (if p.group == g then wished p.grants.items (spans_in s p.members.items) t else want_in (take i pasts) t g s))
    by_group (inl y) rest earlier =
        let other : (past.group == g) ≡ false = ne_eqb past.group g (λ same. absurd (omega (arith, same, earlier, eqb-true p.group g y))) in
        rw (y, other) refl
    by_group (inr f) rest earlier = rw f rest

abbrev pub PastsNoted : List Boundary → List GroupPast → List Turn → Type 0
PastsNoted bs pasts turns = (n g s : ℕ) → turn_at turns n g s ≡ change_at (λ t. want_in pasts t g s) bs n

pub none_pasted : (bs : List Boundary) → PastsNoted bs [] []
none_pasted bs n g s = sym (change_at_none bs n)

module _ (bs : List Boundary) (pasts : List GroupPast) (i : ℕ) (past : GroupPast) (w : i < length pasts) (e : past ≡ get_or pasts i past) (up : AreByGroup pasts) (old : List Turn) (h : PastsNoted bs (take i pasts) old) where
  pub group_new : (n s : ℕ) → turn_at old n past.group s ≡ None
  group_new n s = h n past.group s ∙ (change_at_same (λ t. want_in (take i pasts) t past.group s) (λ t. false) bs n (λ t. past_new pasts i past w e up t s) ∙ change_at_none bs n)

  pub group_pasted : (new : List Turn) → ((n s : ℕ) → turn_at new n past.group s ≡ change_at (wished past.grants.items (spans_in s past.members.items)) bs n) → ((n g s : ℕ) → (past.group == g) ≡ false → turn_at new n g s ≡ turn_at old n g s) → PastsNoted bs (take (i + 1) pasts) new
  group_pasted new noted others n g s = by_group (cases_Bool (past.group == g))
    where
      by_group : ((past.group == g) ≡ true) ⊎ ((past.group == g) ≡ false) → turn_at new n g s ≡ change_at (λ t. want_in (take (i + 1) pasts) t g s) bs n
      by_group (inl y) =
          subst (λ (x : ℕ). turn_at new n x s ≡ change_at (wished past.grants.items (spans_in s past.members.items)) bs n) (eqb-true past.group g y) (noted n s)
          ∙ change_at_same (wished past.grants.items (spans_in s past.members.items)) (λ t. want_in (take (i + 1) pasts) t g s) bs n
          (λ t. sym (past_more pasts i past w e up t g s ∙ rw y refl))
      by_group (inr f) =
          others n g s f ∙ (h n g s
          ∙ change_at_same (λ t. want_in (take i pasts) t g s) (λ t. want_in (take (i + 1) pasts) t g s) bs n
          (λ t. sym (past_more pasts i past w e up t g s ∙ rw f refl)))
