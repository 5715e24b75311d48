-- Grants that stand at a moment begin and end later, and as long as no command comes each is on from its beginning until just before its end.
use Rattle.std.proofs.Common.{◌≡◌, ◌<◌, ◌≤◌, ◌==◌, ◌&&◌, ◌||◌, ℕ, suc, List, [], ◌∷◌, ◌++◌, Bool, true, false, not, map, filter, Option, Some, None, nat_lt, nat_le, arith, refl, sym, ◌∙◌, ap, subst, inl, inr, eqb-true, eq-eqb}
use Rattle.std.specs.Prelude.{IfSome, if◌then◌else◌}
use Rattle.std.proofs.lemmas.Bool.{cases_Bool, cases_lt, or_parts, both_ways, lt-ltb, le-leb, le-ltb, lt-leb}
use Rattle.std.proofs.lemmas.Bool.Decides.{nat_tests}
use Rattle.std.specs.List.{list_any, AllByRecursion}
use Rattle.reg_base.specs.declared.entity.Entity.{Entity}
use Rattle.reg_terms.specs.Kinds.{same_object}
use Rattle.reg_terms.specs.declared.command.Stamped.{Stamped}
use Rattle.reg_terms.specs.declared.command.Command.{Command}
use Rattle.reg_terms.specs.declared.event.Event.{Event}
use Rattle.reg_terms.specs.declared.event.Event.TheVariants.{FolderGone, GroupGone, GrantAdded, GrantBegan, GrantRemoved, DefinitionGone}
use Rattle.reg_terms.specs.declared.kinds.Object.{Object}
use Rattle.reg_terms.specs.declared.kinds.Object.TheVariants.{Folder, Group, Def}
use Rattle.reg_terms.specs.declared.rows.GrantRow.{GrantRow}
use Rattle.reg_facts.specs.Events.{all_happened, events_of, happened}
use Rattle.reg_facts.specs.Grants.{replaced, same_grant, to_come}
use Rattle.reg_facts.specs.Lists.{Lists}
use Rattle.reg_effect.specs.Deltas.{ended}
use Rattle.reg_rules.specs.Settling.{settle}
use Rattle.reg_current.specs.Dates.{at_date, begun_at, date_passed, due, grant_begins_at, grant_ends_at, has_date, is_dated, is_grant_dated, pass}
use Rattle.reg_current.specs.Holding.{AllHold, EndsLater}
use Rattle.reg_current.specs.Invariant.{IsGrantOpen}
use Rattle.reg_current.specs.Live.{live}
use Rattle.reg_machine.specs.GrantDates.{AreOpened, begun_by, grants_by, has_ended}
use Rattle.reg_machine.specs.History.{State, acted, facts}
use Rattle.reg_machine.specs.Invariant.{IsBy}
use Rattle.reg_current.proofs.Due.{due_none, due_some}
use Rattle.reg_current.proofs.Passing.{by_dates, pass_none, pass_some}
use Rattle.reg_machine.proofs.Lived.{facts_earlier, none_before, none_within}
use Rattle.reg_machine.proofs.Moments.{facts_later, facts_push, next_comes, none_comes}
use Rattle.reg_machine.proofs.Settled.{settle_is}

abbrev AllOpen : ℕ → List GrantRow → Type 0
AllOpen at rows = AllByRecursion (IsGrantOpen at) rows

-- ---- between two dates

-- none of a grant's dates comes between two moments
abbrev IsFreeOf : ℕ → ℕ → GrantRow → Type 0
IsFreeOf a c row = (d : ℕ) → a < d → d < c → is_grant_dated d row ≡ false

all_free : (a c : ℕ) (rows : List GrantRow) → ((d : ℕ) → a < d → d < c → list_any (is_grant_dated d) rows ≡ false) → AllByRecursion (IsFreeOf a c) rows
all_free a c [] h = tt
all_free a c (row ∷ rows) h = (λ d p q. (or_parts (is_grant_dated d row) (list_any (is_grant_dated d) rows) (h d p q)).0, all_free a c rows (λ d p q. (or_parts (is_grant_dated d row) (list_any (is_grant_dated d) rows) (h d p q)).1))

no_grant : (f : Lists) (d : ℕ) → has_date f d ≡ false → list_any (is_grant_dated d) f.grants ≡ false
no_grant f d h = (or_parts (list_any (is_dated d) f.rows) (list_any (is_grant_dated d) f.grants) h).1

none_free : (a b : ℕ) (f : Lists) → due a b f ≡ None → AllByRecursion (IsFreeOf a (suc b)) f.grants
none_free a b f e = all_free a (suc b) f.grants (λ d p q. no_grant f d (due_none a b f e d p (omega arith)))

some_free : (a b d : ℕ) (f : Lists) → due a b f ≡ Some d → AllByRecursion (IsFreeOf a d) f.grants
some_free a b d f e = all_free a d f.grants (λ x p q. no_grant f x ((due_some a b d f e).none_before x p q))

-- a later date isn't there
date_later : (a c : ℕ) (o : Option ℕ) → IfSome o (λ u. a < u) → ((d : ℕ) → a < d → d < c → elim o [ None ↦ false | Some u ↦ u == d ] ≡ false) → IfSome o (λ u. c ≤ u)
date_later a c None h free = tt
date_later a c (Some u) h free = elim (cases_lt u c) [
  | inl s ↦ absurd (both_ways (u == u) (free u h s) (eq-eqb u u refl))
  | inr s ↦ s
]

from_later : (a c : ℕ) (row : GrantRow) → IsGrantOpen a row → IsFreeOf a c row → IfSome row.from (λ d. c ≤ d)
from_later a c row h free = date_later a c row.from h.begins (λ d p q. (or_parts (grant_begins_at d row) (grant_ends_at d row) (free d p q)).0)

until_later : (a c : ℕ) (row : GrantRow) → IsGrantOpen a row → IsFreeOf a c row → IfSome row.until (λ u. c ≤ u)
until_later a c row h free = date_later a c row.until h.ends (λ d p q. (or_parts (grant_begins_at d row) (grant_ends_at d row) (free d p q)).1)

after : (b : ℕ) (o : Option ℕ) → IfSome o (λ u. suc b ≤ u) → IfSome o (λ u. b < u)
after b None h = tt
after b (Some u) h = omega (arith, h)

-- up to where none comes they stay open
open_later : (a b : ℕ) (rows : List GrantRow) → AllOpen a rows → AllByRecursion (IsFreeOf a (suc b)) rows → AllOpen b rows
open_later a b [] h free = tt
open_later a b (row ∷ rows) h free = (
  record {
    begins = after b row.from (from_later a (suc b) row h.0 free.0);
    ends = after b row.until (until_later a (suc b) row h.0 free.0);
    after = h.0.after;
  },
  open_later a b rows h.1 free.1,
)

-- and none of them ends or begins
until_on : (t : ℕ) (o : Option ℕ) → IfSome o (λ u. suc t ≤ u) → elim o [ None ↦ false | Some u ↦ nat_le u t ] ≡ false
until_on t None h = refl
until_on t (Some u) h = lt-leb u t (omega (arith, h))

from_on : (t : ℕ) (o : Option ℕ) → IfSome o (λ u. suc t ≤ u) → to_come t o ≡ o
from_on t None h = refl
from_on t (Some u) h = let less : nat_lt t u ≡ true = lt-ltb t u (omega (arith, h)) in rw less refl

by_cons : (t : ℕ) (row : GrantRow) (rows : List GrantRow) → grants_by t (row ∷ rows) ≡ (if has_ended t row then grants_by t rows else begun_by t row ∷ grants_by t rows)
by_cons t row rows = elim (cases_Bool (has_ended t row)) [
  | inl y ↦ rw y refl
  | inr n ↦ rw n refl
]

still_by : (a t : ℕ) (rows : List GrantRow) → AllOpen a rows → AllByRecursion (IsFreeOf a (suc t)) rows → grants_by t rows ≡ rows
still_by a t [] h free = refl
still_by a t (row ∷ rows) h free =
    let on : has_ended t row ≡ false = until_on t row.until (until_later a (suc t) row h.0 free.0) in
    let same : begun_by t row ≡ row = ap (λ (o : Option ℕ). record row { from = o }) (from_on t row.from (from_later a (suc t) row h.0 free.0)) in
    by_cons t row rows ∙ rw on (ap (λ (x : GrantRow). x ∷ grants_by t rows) same ∙ ap (λ (xs : List GrantRow). row ∷ xs) (still_by a t rows h.1 free.1))

-- ---- a date

past : (d : ℕ) (o : Option ℕ) → IfSome o (λ u. d ≤ u) → elim o [ None ↦ false | Some u ↦ u == d ] ≡ false → IfSome o (λ u. d < u)
past d None h n = tt
past d (Some u) h n = elim (cases_lt d u) [
  | inl l ↦ l
  | inr l ↦ let e : u ≡ d = omega (arith, h, l) in absurd (both_ways (u == d) n (eq-eqb u d e))
]

-- those that it leaves are open after it
open_row : (a d : ℕ) (row : GrantRow) → IsGrantOpen a row → IsFreeOf a d row → grant_ends_at d row ≡ false → IsGrantOpen d (begun_at d row)
open_row a d row h free n =
    let ends = past d row.until (until_later a d row h free) n in
    elim (cases_Bool (grant_begins_at d row)) [
      | inl y ↦ rw y (record { begins = tt; ends = ends; after = tt })
      | inr m ↦ rw m (record { begins = past d row.from (from_later a d row h free) m; ends = ends; after = h.after })
    ]

open_left : (a d : ℕ) (rows : List GrantRow) → AllOpen a rows → AllByRecursion (IsFreeOf a d) rows → AllOpen d (map (begun_at d) (filter (λ (row : GrantRow). not (grant_ends_at d row)) rows))
open_left a d [] h free = tt
open_left a d (row ∷ rows) h free = elim (cases_Bool (grant_ends_at d row)) [
  | inl y ↦ rw y (open_left a d rows h.1 free.1)
  | inr n ↦ rw n (open_row a d row h.0 free.0 n, open_left a d rows h.1 free.1)
]

-- and at a later moment they are what those before it are then
ended_by : (d t : ℕ) (o : Option ℕ) → d ≤ t → elim o [ None ↦ false | Some u ↦ u == d ] ≡ true → elim o [ None ↦ false | Some u ↦ nat_le u t ] ≡ true
ended_by d t None w y = let clash : ⊥ = cc in absurd clash
ended_by d t (Some u) w y = let e = eqb-true u d y in le-leb u t (omega (arith, e, w))

come_by : (d t : ℕ) (o : Option ℕ) → d ≤ t → elim o [ None ↦ false | Some u ↦ u == d ] ≡ true → to_come t o ≡ None
come_by d t None w y = refl
come_by d t (Some u) w y =
    let e = eqb-true u d y in
    let no : nat_lt t u ≡ false = le-ltb t u (omega (arith, e, w)) in
    rw no refl

begun_same : (d t : ℕ) (row : GrantRow) → d ≤ t → begun_by t (begun_at d row) ≡ begun_by t row
begun_same d t row w = elim (cases_Bool (grant_begins_at d row)) [
  | inl y ↦ rw y (ap (λ (o : Option ℕ). record row { from = o }) (sym (come_by d t row.from w y)))
  | inr n ↦ rw n refl
]

until_same : (d t : ℕ) (row : GrantRow) → has_ended t (begun_at d row) ≡ has_ended t row
until_same d t row = elim (cases_Bool (grant_begins_at d row)) [
  | inl y ↦ rw y refl
  | inr n ↦ rw n refl
]

left_by : (d t : ℕ) (rows : List GrantRow) → d ≤ t → grants_by t (map (begun_at d) (filter (λ (row : GrantRow). not (grant_ends_at d row)) rows)) ≡ grants_by t rows
left_by d t [] w = refl
left_by d t (row ∷ rows) w =
    let rest = left_by d t rows w in
    let left : List GrantRow = map (begun_at d) (filter (λ (r : GrantRow). not (grant_ends_at d r)) rows) in
    elim (cases_Bool (grant_ends_at d row)) [
      | inl y ↦
          let over : has_ended t row ≡ true = ended_by d t row.until w y in
          rw y (rest ∙ (sym (by_cons t row rows ∙ rw over refl)))
      | inr n ↦ rw n (
          by_cons t (begun_at d row) left
          ∙ (ap (λ b. if b then grants_by t left else begun_by t (begun_at d row) ∷ grants_by t left) (until_same d t row)
          ∙ (ap (λ (x : GrantRow). if has_ended t row then grants_by t left else x ∷ grants_by t left) (begun_same d t row w)
          ∙ (ap (λ (xs : List GrantRow). if has_ended t row then xs else begun_by t row ∷ xs) rest ∙ sym (by_cons t row rows)))))
    ]

-- rules leave grants
date_grants : (a d : ℕ) (f : Lists) → (date_passed a d f).grants ≡ map (begun_at d) (filter (λ (row : GrantRow). not (grant_ends_at d row)) f.grants)
date_grants a d f = ap (λ (x : Lists). x.grants) (settle_is (ended (live a f) (live d (at_date d f))) d (at_date d f))

date_open : (a b d : ℕ) (f : Lists) → AllOpen a f.grants → due a b f ≡ Some d → AllOpen d (date_passed a d f).grants
date_open a b d f h e = subst (λ (rows : List GrantRow). AllOpen d rows) (sym (date_grants a d f)) (open_left a d f.grants h (some_free a b d f e))

-- ---- after all dates up to a moment

module _ (t : ℕ) where
  -- what is so from a moment on
  abbrev GrantsFrom : ℕ → Lists → Type 0
  GrantsFrom a f = AllByRecursion (IsGrantOpen a) f.grants → (pass a t f).grants ≡ grants_by t f.grants

  none_comes_by : (a : ℕ) (f : Lists) → due a t f ≡ None → GrantsFrom a f
  none_comes_by a f none opens = ap (λ (k : Lists). k.grants) (pass_none a t f none) ∙ sym (still_by a t f.grants opens (none_free a t f none))

  one_comes_by : (a d : ℕ) (f : Lists) → due a t f ≡ Some d → GrantsFrom d (date_passed a d f) → GrantsFrom a f
  one_comes_by a d f e onward opens =
      ap (λ (k : Lists). k.grants) (pass_some a t d f e)
      ∙ (onward (date_open a t d f opens e)
      ∙ (ap (grants_by t) (date_grants a d f) ∙ left_by d t f.grants (due_some a t d f e).within))

  pub grants_at : (a : ℕ) (f : Lists) → AllByRecursion (IsGrantOpen a) f.grants → (pass a t f).grants ≡ grants_by t f.grants
  grants_at a f opens = by_dates t GrantsFrom none_comes_by one_comes_by a f opens

-- the grants of a history at a moment, by those at an earlier one
pub grants_later : (t u : ℕ) (history : List Stamped) → AllByRecursion (IsBy t) history → AllByRecursion (IsGrantOpen t) (facts history t).grants → t ≤ u → (facts history u).grants ≡ grants_by u (facts history t).grants
grants_later t u history by opens w = ap (λ (f : Lists). f.grants) (facts_later t u history by w) ∙ grants_at u t (facts history t) opens

-- ---- events

open_push : (at : ℕ) (rows : List GrantRow) (row : GrantRow) → AllOpen at rows → IsGrantOpen at row → AllOpen at (rows ++ row ∷ [])
open_push at [] row h new = (new, tt)
open_push at (r ∷ rows) row h new = (h.0, open_push at rows row h.1 new)

open_filter : (at : ℕ) (test : GrantRow → Bool) (rows : List GrantRow) → AllOpen at rows → AllOpen at (filter test rows)
open_filter at test [] h = tt
open_filter at test (row ∷ rows) h = elim (cases_Bool (test row)) [
  | inl y ↦ rw y (h.0, open_filter at test rows h.1)
  | inr n ↦ rw n (open_filter at test rows h.1)
]

open_replaced : (at : ℕ) (row : GrantRow) (rows : List GrantRow) → AllOpen at rows → IsGrantOpen at row → AllOpen at (map (replaced row) rows)
open_replaced at row [] h new = tt
open_replaced at row (r ∷ rows) h new = elim (cases_Bool (same_grant row r)) [
  | inl y ↦ rw y (new, open_replaced at row rows h.1 new)
  | inr n ↦ rw n (h.0, open_replaced at row rows h.1 new)
]

event_open : (at : ℕ) (e : Event) (f : Lists) → EndsLater at e → AllOpen at f.grants → AllOpen at (happened e f).grants
event_open at (GrantAdded row) f later h = open_push at f.grants row h later
event_open at (GrantBegan row) f later h = open_replaced at row f.grants h later
event_open at (GrantRemoved row) f later h = open_filter at (λ (other : GrantRow). not (same_grant row other)) f.grants h
event_open at (FolderGone id) f later h = open_filter at (λ (row : GrantRow). not (same_object row.object (Folder id))) f.grants h
event_open at (GroupGone id) f later h = open_filter at (λ (row : GrantRow). not (same_object row.object (Group id))) f.grants h
event_open at (DefinitionGone id) f later h = open_filter at (λ (row : GrantRow). not (same_object row.object (Def id))) f.grants h
event_open at _ f later h = h

events_open : (at : ℕ) (es : List Event) (f : Lists) → AllHold at es f → AllOpen at f.grants → AllOpen at (all_happened es f).grants
events_open at [] f hold h = h
events_open at (e ∷ es) f hold h = events_open at es (happened e f) hold.1 (event_open at e f hold.0.later h)

-- ---- at each moment of a history

-- up to where no date comes
opened_on : (history : List Stamped) (t v : ℕ) → AllByRecursion (IsBy t) history → AreOpened history t → t ≤ v → due t v (facts history t) ≡ None → AllByRecursion (IsGrantOpen v) (facts history v).grants
opened_on history t v by h later none = subst (λ (f : Lists). AllOpen v f.grants) (sym (none_comes t v history by later none)) (open_later t v (facts history t).grants (h t (omega arith)) (none_free t v (facts history t) none))

pub opened_later : (history : List Stamped) (t u : ℕ) → AllByRecursion (IsBy t) history → AreOpened history t → t ≤ u → due t u (facts history t) ≡ None → AreOpened history u
opened_later history t u by h w none v x = elim (cases_Bool (nat_le v t)) [
  | inl y ↦ h v (grind (arith, nat_tests, y))
  | inr n ↦ opened_on history t v by h (grind (arith, nat_tests, n)) (none_within t u v (facts history t) none x)
]

-- the next date
pub opened_next : (history : List Stamped) (t d : ℕ) → AllByRecursion (IsBy t) history → AreOpened history t → due t d (facts history t) ≡ Some d → AreOpened history d
opened_next history t d by h first v x = elim (cases_Bool (nat_le d v)) [
  | inl y ↦
      let same : v ≡ d = grind (arith, nat_tests, y, x) in
      rw same (subst (λ (f : Lists). AllOpen d f.grants) (sym (next_comes t d d history by first)) (date_open t d d (facts history t) (h t (omega arith)) first))
  | inr n ↦
      let less : v < d = grind (arith, nat_tests, n) in
      elim (cases_Bool (nat_le v t)) [
        | inl y ↦ h v (grind (arith, nat_tests, y))
        | inr m ↦ opened_on history t v by h (grind (arith, nat_tests, m)) (none_before t d v (facts history t) first less)
      ]
]

-- a command more
pub opened_push : (history : List Stamped) (at : ℕ) (by : Entity) (key : Option (List ℕ)) (command : Command) → AllByRecursion (IsBy at) history → AreOpened history at → AllHold at (events_of at by command (facts history at)) (facts history at)
    → AreOpened (history ++ (record { at = at; by = by; key = key; command = command }) ∷ []) at
opened_push history at by key command before h hold v x = elim (cases_Bool (nat_le at v)) [
  | inl y ↦
      let same : v ≡ at = grind (arith, nat_tests, y, x) in
      rw same (subst (λ (k : Lists). AllOpen at k.grants) (sym (facts_push at by key command history before)) acted_open)
  | inr n ↦
      let less : v < at = grind (arith, nat_tests, n) in
      subst (λ (k : Lists). AllOpen v k.grants) (sym (facts_earlier history at v by key command less)) (h v (omega (arith, less)))
]
  where
    f : Lists
    f = facts history at

    es : List Event
    es = events_of at by command f

    acted_open : AllOpen at (acted at by command f).grants
    acted_open =
        let stay : (acted at by command f).grants ≡ (all_happened es f).grants = ap (λ (k : Lists). k.grants) (settle_is (ended (live at f) (live at (all_happened es f))) at (all_happened es f)) in
        subst (λ (rows : List GrantRow). AllOpen at rows) (sym stay) (events_open at es f hold (h at (omega arith)))

-- nothing yet
pub opened_start : AreOpened [] 0
unfolding facts pass
opened_start t w = tt

-- ---- of a machine that is seen as a state

pub opened_told : (history : List Stamped) (clock : ℕ) (s : State) → AreOpened history clock → record { history = history; clock = clock } ≡ s → AreOpened s.history s.clock
opened_told history clock s h is = subst (λ (x : State). AreOpened x.history x.clock) is h

pub grants_meanwhile : (history : List Stamped) (clock : ℕ) (s : State) → AllByRecursion (IsBy clock) history → AreOpened history clock → record { history = history; clock = clock } ≡ s
    → (u : ℕ) → s.clock ≤ u → (facts s.history u).grants ≡ grants_by u (facts s.history s.clock).grants
grants_meanwhile history clock s by h is u w = subst (λ (x : State). x.clock ≤ u → (facts x.history u).grants ≡ grants_by u (facts x.history x.clock).grants) is (λ later. grants_later clock u history by (h clock (omega arith)) later) w
