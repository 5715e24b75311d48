-- Dates that come one after another: one step, and from one moment to another.
use Rattle.std.proofs.Common.{◌≡◌, ◌<◌, ◌≤◌, ◌+◌, ◌*◌, ◌==◌, ◌&&◌, ℕ, zero, suc, List, [], ◌∷◌, Bool, true, false, not, Option, map, filter, length, cond, Some, None, nat_lt, nat_le, if◌then◌else◌, arith, refl, sym, ◌∙◌, ap, inl, inr}
use Rattle.std.proofs.lemmas.Bool.{cases_Bool, or_cases, both_ways, eqb-true, le-leb, lt-leb}
use Rattle.std.proofs.lemmas.Bool.Decides.{nat_tests}
use Rattle.std.proofs.lemmas.Grind.{common_steps}
use Rattle.std.specs.BTreeSet.{insert_key}
use Rattle.std.specs.List.{AllByRecursion, list_any}
use Rattle.reg_terms.specs.declared.kinds.Member.{Member}
use Rattle.reg_terms.specs.declared.kinds.Member.TheVariants.{Person}
use Rattle.reg_terms.specs.declared.rows.GrantRow.{GrantRow}
use Rattle.reg_terms.specs.declared.rows.MemberRow.{MemberRow}
use Rattle.reg_terms.specs.Rows.{is_row}
use Rattle.reg_facts.specs.Lists.{Lists}
use Rattle.reg_facts.proofs.Places.{cases_option}
use Rattle.reg_effect.specs.declared.live.Live.{Live}
use Rattle.reg_effect.specs.Bound.{most_steps_of}
use Rattle.reg_effect.specs.Changes.{rows_on, composites_in}
use Rattle.reg_effect.specs.Deltas.{ended}
use Rattle.reg_effect.specs.Order.{row_cmp}
use Rattle.reg_rules.specs.declared.actions.Action.{Action}
use Rattle.reg_rules.specs.declared.actions.Action.TheVariants.{Removed, Ended}
use Rattle.reg_rules.specs.Actions.{with_end, done, all_done, changes_by}
use Rattle.reg_rules.specs.Settling.{settle, settling}
use Rattle.reg_current.specs.Dates.{begins_at, ends_at, grant_begins_at, grant_ends_at, is_grant_dated, begun_at, due, at_date, date_actions, date_changes, date_passed, date_steps, most_dates, pass_in, pass, pass_steps_in, pass_steps, is_dated, has_date}
use Rattle.reg_current.specs.Live.{live}
use Rattle.reg_current.proofs.Due.{IsApart, IsStill, due_some, due_up_to, due_from, due_nowhere, none_still}

-- 1 for a date after one moment and up to another, and 0 for others
abbrev counts : ℕ → ℕ → ℕ → ℕ
counts a b d = if nat_lt a d && nat_le d b then 1 else 0

-- what dates of rows may come after one moment and up to another: a beginning that lies there, and the one end of each row, since a
-- row that has none may be given one
abbrev row_dates : ℕ → ℕ → List MemberRow → ℕ
row_dates a b [] = 0
row_dates a b (row ∷ rows) = counts a b row.from + suc (row_dates a b rows)

-- and of grants: none is given an end
abbrev counts_some : ℕ → ℕ → Option ℕ → ℕ
counts_some a b None = 0
counts_some a b (Some d) = counts a b d

abbrev grant_dates : ℕ → ℕ → List GrantRow → ℕ
grant_dates a b [] = 0
grant_dates a b (row ∷ rows) = counts_some a b row.from + (counts_some a b row.until + grant_dates a b rows)

-- what dates may come of both
abbrev pub dates_in : ℕ → ℕ → Lists → ℕ
dates_in a b f = row_dates a b f.rows + grant_dates a b f.grants

counts_most : (a b d : ℕ) → counts a b d ≤ 1
counts_most a b d = grind (arith, common_steps, nat_tests)

counts_less : (a c b d : ℕ) → a ≤ c → counts c b d ≤ counts a b d
counts_less a c b d p = grind (arith, common_steps, nat_tests)

counts_falls : (a c b : ℕ) → a < c → c ≤ b → counts c b c < counts a b c
counts_falls a c b p q = grind (arith, common_steps, nat_tests)

-- and so of a date that may be there
some_most : (a b : ℕ) (o : Option ℕ) → counts_some a b o ≤ 1
some_most a b None = omega arith
some_most a b (Some d) = counts_most a b d

some_less : (a c b : ℕ) (o : Option ℕ) → a ≤ c → counts_some c b o ≤ counts_some a b o
some_less a c b None p = omega arith
some_less a c b (Some d) p = counts_less a c b d p

some_falls : (a c b : ℕ) (o : Option ℕ) → a < c → c ≤ b → elim o [ None ↦ false | Some u ↦ u == c ] ≡ true → 1 ≤ counts_some a b o
some_falls a c b None p q e = cc
some_falls a c b (Some u) p q e = let t = eqb-true u c e in let f = counts_falls a c b p q in rw t (omega (arith, f))

rows_most : (a b : ℕ) (rows : List MemberRow) → row_dates a b rows ≤ 2 * length rows
rows_most a b [] = omega arith
rows_most a b (row ∷ rows) = omega (arith, counts_most a b row.from, rows_most a b rows)

grants_most : (a b : ℕ) (rows : List GrantRow) → grant_dates a b rows ≤ 2 * length rows
grants_most a b [] = omega arith
grants_most a b (row ∷ rows) = omega (arith, some_most a b row.from, some_most a b row.until, grants_most a b rows)

pub dates_most : (a b : ℕ) (f : Lists) → dates_in a b f ≤ most_dates f
dates_most a b f = omega (arith, rows_most a b f.rows, grants_most a b f.grants)

rows_less : (a c b : ℕ) (rows : List MemberRow) → a ≤ c → row_dates c b rows ≤ row_dates a b rows
rows_less a c b [] p = omega arith
rows_less a c b (row ∷ rows) p = omega (arith, counts_less a c b row.from p, rows_less a c b rows p)

rows_filter : (a b : ℕ) (test : MemberRow → Bool) (rows : List MemberRow) → row_dates a b (filter test rows) ≤ row_dates a b rows
rows_filter a b test [] = omega arith
rows_filter a b test (row ∷ rows) = elim (cases_Bool (test row)) [
  | inl y ↦ rw y (omega (arith, rows_filter a b test rows))
  | inr n ↦ rw n (omega (arith, rows_filter a b test rows))
]

-- a date that has come is none that comes: a row that begins there has begun, and one that ends there is gone
rows_fall : (a c b : ℕ) (rows : List MemberRow) → a < c → c ≤ b → list_any (is_dated c) rows ≡ true → row_dates c b (filter (λ (row : MemberRow). not (ends_at c row)) rows) < row_dates a b rows
rows_fall a c b [] p q e = cc
rows_fall a c b (row ∷ rows) p q e =
    let k : a ≤ c = omega arith in
    let rest = rows_filter c b (λ (x : MemberRow). not (ends_at c x)) rows in
    let less = rows_less a c b rows k in
    let one = counts_less a c b row.from k in
    elim (cases_Bool (ends_at c row)) [
      | inl y ↦ rw y (omega (arith, rest, less))
      | inr n ↦ elim (or_cases (is_dated c row) (list_any (is_dated c) rows) e) [
        | inl here ↦ elim (or_cases (begins_at c row) (ends_at c row) here) [
          | inl s ↦
              let t = eqb-true row.from c s in
              let f : counts c b row.from < counts a b row.from = rw t (counts_falls a c b p q) in
              rw n (omega (arith, f, rest, less))
          | inr s ↦ absurd (both_ways (ends_at c row) n s)
        ]
        | inr later ↦ let fall = rows_fall a c b rows p q later in rw n (omega (arith, one, fall))
      ]
    ]

-- the grants that a date leaves: those that end there are gone, and those that begin there are on
abbrev left_at : ℕ → List GrantRow → List GrantRow
left_at c rows = map (begun_at c) (filter (λ (row : GrantRow). not (grant_ends_at c row)) rows)

begun_less : (a c b : ℕ) (row : GrantRow) → a ≤ c → counts_some c b (begun_at c row).from + counts_some c b (begun_at c row).until ≤ counts_some a b row.from + counts_some a b row.until
begun_less a c b row p =
    let begins = some_less a c b row.from p in
    let ends = some_less a c b row.until p in
    elim (cases_Bool (grant_begins_at c row)) [
      | inl y ↦ rw y (omega (arith, ends))
      | inr n ↦ rw n (omega (arith, begins, ends))
    ]

grants_less : (a c b : ℕ) (rows : List GrantRow) → a ≤ c → grant_dates c b (left_at c rows) ≤ grant_dates a b rows
grants_less a c b [] p = omega arith
grants_less a c b (row ∷ rows) p = elim (cases_Bool (grant_ends_at c row)) [
  | inl y ↦ rw y (omega (arith, grants_less a c b rows p))
  | inr n ↦ rw n (omega (arith, begun_less a c b row p, grants_less a c b rows p))
]

grants_fall : (a c b : ℕ) (rows : List GrantRow) → a < c → c ≤ b → list_any (is_grant_dated c) rows ≡ true → grant_dates c b (left_at c rows) < grant_dates a b rows
grants_fall a c b [] p q e = cc
grants_fall a c b (row ∷ rows) p q e =
    let k : a ≤ c = omega arith in
    let less = grants_less a c b rows k in
    let one = begun_less a c b row k in
    elim (cases_Bool (grant_ends_at c row)) [
      | inl y ↦ let f = some_falls a c b row.until p q y in rw y (omega (arith, f, less))
      | inr n ↦ elim (or_cases (is_grant_dated c row) (list_any (is_grant_dated c) rows) e) [
        | inl here ↦ elim (or_cases (grant_begins_at c row) (grant_ends_at c row) here) [
          | inl s ↦
              let f = some_falls a c b row.from p q s in
              let ends = some_less a c b row.until k in
              rw (n, s) (omega (arith, f, ends, less))
          | inr s ↦ absurd (both_ways (grant_ends_at c row) n s)
        ]
        | inr later ↦ let fall = grants_fall a c b rows p q later in rw n (omega (arith, one, fall))
      ]
    ]

dates_fall : (a c b : ℕ) (f : Lists) → a < c → c ≤ b → has_date f c ≡ true → dates_in c b (at_date c f) < dates_in a b f
dates_fall a c b f p q e =
    let k : a ≤ c = omega arith in
    elim (or_cases (list_any (is_dated c) f.rows) (list_any (is_grant_dated c) f.grants) e) [
      | inl y ↦ omega (arith, rows_fall a c b f.rows p q y, grants_less a c b f.grants k)
      | inr y ↦ omega (arith, rows_filter c b (λ (x : MemberRow). not (ends_at c x)) f.rows, rows_less a c b f.rows k, grants_fall a c b f.grants p q y)
    ]

-- rows that get an end have no date more
dates_ended : (a b g s until : ℕ) (rows : List MemberRow) → row_dates a b (map (with_end g s until) rows) ≡ row_dates a b rows
dates_ended a b g s until [] = refl
dates_ended a b g s until (row ∷ rows) = elim (cases_Bool (is_row g (Person s) row)) [
  | inl y ↦ rw (y, dates_ended a b g s until rows) refl
  | inr n ↦ rw (n, dates_ended a b g s until rows) refl
]

-- so what rules do brings no date with it
done_less : (a b : ℕ) (action : Action) (f : Lists) → dates_in a b (done action f) ≤ dates_in a b f
done_less a b (Removed rule g s) f = omega (arith, rows_filter a b (λ (row : MemberRow). not (is_row g (Person s) row)) f.rows)
done_less a b (Ended rule g s until) f = let same = dates_ended a b g s until f.rows in omega (arith, same)

all_done_less : (a b : ℕ) (actions : List Action) (f : Lists) → dates_in a b (all_done actions f) ≤ dates_in a b f
all_done_less a b [] f = omega arith
all_done_less a b (action ∷ actions) f = omega (arith, done_less a b action f, all_done_less a b actions (done action f))

pub date_passed_falls : (a b d : ℕ) (f : Lists) → due a b f ≡ Some d → dates_in d b (date_passed a d f) < dates_in a b f
date_passed_falls a b d f e =
    let h = due_some a b d f e in
    omega (arith, all_done_less d b (date_actions a d f) (at_date d f), dates_fall a d b f h.later h.within h.dated)

-- ---- by the dates that come: what holds where none is due, and before a date if it holds after it, holds

module _ (b : ℕ) (P : ℕ → Lists → Type 0) (none : (a : ℕ) (f : Lists) → due a b f ≡ None → P a f) (one : (a d : ℕ) (f : Lists) → due a b f ≡ Some d → P d (date_passed a d f) → P a f) where
  some_dates : (n a : ℕ) (f : Lists) → dates_in a b f ≤ n → P a f
  some_dates zero a f k = elim (cases_option (due a b f)) [
    | inl e ↦ none a f e
    | inr e ↦ absurd (omega (arith, date_passed_falls a b e.0 f e.1))
  ]
  some_dates (suc n) a f k = elim (cases_option (due a b f)) [
    | inl e ↦ none a f e
    | inr e ↦ let less = date_passed_falls a b e.0 f e.1 in one a e.0 f e.1 (some_dates n e.0 (date_passed a e.0 f) (omega arith))
  ]

  pub by_dates : (a : ℕ) (f : Lists) → P a f
  by_dates a f = some_dates (dates_in a b f) a f (omega arith)

-- ---- as many dates as are due, and from there on no more

pass_in_none : (n a b : ℕ) (f : Lists) → due a b f ≡ None → pass_in n a b f ≡ f
pass_in_none zero a b f e = refl
pass_in_none (suc n) a b f e = rw (e, pass_in)

pass_in_some : (n a b d : ℕ) (f : Lists) → due a b f ≡ Some d → pass_in (suc n) a b f ≡ pass_in n d b (date_passed a d f)
pass_in_some n a b d f e = rw (e, pass_in)

enough : (n m a b : ℕ) (f : Lists) → dates_in a b f ≤ n → dates_in a b f ≤ m → pass_in n a b f ≡ pass_in m a b f
enough zero m a b f p q = elim (cases_option (due a b f)) [
  | inl none ↦ sym (pass_in_none m a b f none)
  | inr one ↦ absurd (omega (arith, date_passed_falls a b one.0 f one.1))
]
enough (suc n) zero a b f p q = elim (cases_option (due a b f)) [
  | inl none ↦ pass_in_none (suc n) a b f none
  | inr one ↦ absurd (omega (arith, date_passed_falls a b one.0 f one.1))
]
enough (suc n) (suc m) a b f p q = elim (cases_option (due a b f)) [
  | inl none ↦ pass_in_none (suc n) a b f none ∙ sym (pass_in_none (suc m) a b f none)
  | inr one ↦
      let d = one.0 in
      let less = date_passed_falls a b d f one.1 in
      pass_in_some n a b d f one.1 ∙ (enough n m d b (date_passed a d f) (omega arith) (omega arith) ∙ sym (pass_in_some m a b d f one.1))
]

steps_in_none : (n a b : ℕ) (f : Lists) → due a b f ≡ None → pass_steps_in n a b f ≡ 0
steps_in_none zero a b f e = refl
steps_in_none (suc n) a b f e = rw (e, pass_steps_in)

steps_in_some : (n a b d : ℕ) (f : Lists) → due a b f ≡ Some d → pass_steps_in (suc n) a b f ≡ date_steps a d f + pass_steps_in n d b (date_passed a d f)
steps_in_some n a b d f e = rw (e, pass_steps_in)

enough_steps : (n m a b : ℕ) (f : Lists) → dates_in a b f ≤ n → dates_in a b f ≤ m → pass_steps_in n a b f ≡ pass_steps_in m a b f
enough_steps zero m a b f p q = elim (cases_option (due a b f)) [
  | inl none ↦ sym (steps_in_none m a b f none)
  | inr one ↦ absurd (omega (arith, date_passed_falls a b one.0 f one.1))
]
enough_steps (suc n) zero a b f p q = elim (cases_option (due a b f)) [
  | inl none ↦ steps_in_none (suc n) a b f none
  | inr one ↦ absurd (omega (arith, date_passed_falls a b one.0 f one.1))
]
enough_steps (suc n) (suc m) a b f p q = elim (cases_option (due a b f)) [
  | inl none ↦ steps_in_none (suc n) a b f none ∙ sym (steps_in_none (suc m) a b f none)
  | inr one ↦
      let d = one.0 in
      let less = date_passed_falls a b d f one.1 in
      steps_in_some n a b d f one.1 ∙ (ap (λ k. date_steps a d f + k) (enough_steps n m d b (date_passed a d f) (omega arith) (omega arith)) ∙ sym (steps_in_some m a b d f one.1))
]

-- ---- one step

pub pass_none : (a b : ℕ) (f : Lists) → due a b f ≡ None → pass a b f ≡ f
unfolding pass
pass_none a b f e = pass_in_none (most_dates f) a b f e

pub pass_some : (a b d : ℕ) (f : Lists) → due a b f ≡ Some d → pass a b f ≡ pass d b (date_passed a d f)
unfolding pass
pass_some a b d f e =
    let n = most_dates f in
    let most = dates_most a b f in
    let less = date_passed_falls a b d f e in
    let m = most_dates (date_passed a d f) in
    let more = dates_most d b (date_passed a d f) in
    enough n (suc n) a b f (omega arith) (omega arith) ∙ (pass_in_some n a b d f e ∙ enough n m d b (date_passed a d f) (omega arith) more)

pub pass_steps_some : (a b d : ℕ) (f : Lists) → due a b f ≡ Some d → pass_steps a b f ≡ date_steps a d f + pass_steps d b (date_passed a d f)
unfolding pass_steps
pass_steps_some a b d f e =
    let n = most_dates f in
    let most = dates_most a b f in
    let less = date_passed_falls a b d f e in
    let m = most_dates (date_passed a d f) in
    let more = dates_most d b (date_passed a d f) in
    enough_steps n (suc n) a b f (omega arith) (omega arith) ∙ (steps_in_some n a b d f e ∙ ap (λ k. date_steps a d f + k) (enough_steps n m d b (date_passed a d f) (omega arith) more))

-- ---- where none is due, the same rows are on

same_begun : (a b d : ℕ) → a ≤ b → IsApart a (suc b) d → nat_le d b ≡ nat_le d a
same_begun a b d w (inl p) = le-leb d b (omega arith) ∙ sym (le-leb d a p)
same_begun a b d w (inr p) = lt-leb d b p ∙ sym (lt-leb d a (omega arith))

same_on : (a b : ℕ) (rows : List MemberRow) (found : List (ℕ × Member)) → a ≤ b → AllByRecursion (IsStill a (suc b)) rows → rows_on b rows found ≡ rows_on a rows found
same_on a b [] found w h = refl
same_on a b (row ∷ rows) found w h = rw (same_begun a b row.from w h.0.begins) (same_on a b rows (cond (nat_le row.from a) (insert_key row_cmp found (row.group, row.member)) found) w h.1)

pub live_stays : (a b : ℕ) (f : Lists) → a ≤ b → due a b f ≡ None → live b f ≡ live a f
live_stays a b f w e = ap (λ rows. record { rows = rows; composites = composites_in f.composites [] }) (same_on a b f.rows [] w (none_still a b f e))

-- what comes is the same from a moment up to which none is due
pub date_passed_from : (a b d : ℕ) (f : Lists) → a ≤ b → due a b f ≡ None → date_passed b d f ≡ date_passed a d f
date_passed_from a b d f w e = ap (λ (L : Live). settle (ended L (live d (at_date d f))) d (at_date d f)) (live_stays a b f w e)

-- and so is what rules do there, and how many steps it takes
pub date_actions_from : (a b d : ℕ) (f : Lists) → a ≤ b → due a b f ≡ None → date_actions b d f ≡ date_actions a d f
date_actions_from a b d f w e = ap (λ (L : Live). settling (ended L (live d (at_date d f))) d (at_date d f)) (live_stays a b f w e)

pub date_steps_from : (a b d : ℕ) (f : Lists) → a ≤ b → due a b f ≡ None → date_steps b d f ≡ date_steps a d f
date_steps_from a b d f w e = ap (λ (L : Live). most_steps_of (date_changes d f) L + most_steps_of (changes_by (settling (ended L (live d (at_date d f))) d (at_date d f))) (live d (at_date d f))) (live_stays a b f w e)

-- ---- on from a moment in between

pub pass_from : (a b c : ℕ) (f : Lists) → a ≤ b → due a b f ≡ None → pass b c f ≡ pass a c f
pass_from a b c f w none = elim (cases_option (due a c f)) [
  | inl all ↦ pass_none b c f (due_from a b c f none w ∙ all) ∙ sym (pass_none a c f all)
  | inr one ↦
      let d = one.0 in
      pass_some b c d f (due_from a b c f none w ∙ one.1) ∙ (ap (pass d c) (date_passed_from a b d f w none) ∙ sym (pass_some a c d f one.1))
]

pub pass_then : (a b c : ℕ) (f : Lists) → a ≤ b → b ≤ c → pass b c (pass a b f) ≡ pass a c f
pass_then a b c f p q = by_dates b (λ x g. x ≤ b → pass b c (pass x b g) ≡ pass x c g) rest first a f p
  where
    rest : (x : ℕ) (g : Lists) → due x b g ≡ None → x ≤ b → pass b c (pass x b g) ≡ pass x c g
    rest x g none w = ap (pass b c) (pass_none x b g none) ∙ pass_from x b c g w none

    first : (x d : ℕ) (g : Lists) → due x b g ≡ Some d → (d ≤ b → pass b c (pass d b (date_passed x d g)) ≡ pass d c (date_passed x d g)) → x ≤ b → pass b c (pass x b g) ≡ pass x c g
    first x d g e onward w =
        let h = due_some x b d g e in
        let v = h.within in
        ap (pass b c) (pass_some x b d g e) ∙ (onward v ∙ sym (pass_some x c d g (due_up_to x b c d g e (omega arith))))

pub pass_nowhere : (a : ℕ) (f : Lists) → pass a a f ≡ f
pass_nowhere a f = pass_none a a f (due_nowhere a f)
