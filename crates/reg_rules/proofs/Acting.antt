-- An action can be carried out, and what it changes is what its event changes.
use Rattle.std.proofs.Common.{◌≡◌, ◌≤◌, ◌<◌, ◌+◌, ◌*◌, ◌==◌, ◌&&◌, ◌++◌, ℕ, List, [], ◌∷◌, true, false, map, Option, Some, None, nat_le, nat_lt, arith, refl, sym, ◌∙◌, ap, subst, inl, inr, if◌then◌else◌}
use Rattle.std.proofs.lemmas.Bool.{cases_Bool, or_left, or_right, or_parts, and_from, and_parts}
use Rattle.std.proofs.lemmas.Bool.Decides.{nat_tests}
use Rattle.std.specs.List.{find, list_any}
use Rattle.reg_base.specs.Calendar.{day_micros}
use Rattle.reg_base.specs.declared.moment.TheConstants.{GREATEST_MOMENT}
use Rattle.reg_terms.specs.declared.event.Event.TheVariants.{RowRemoved, RowRedated}
use Rattle.reg_terms.specs.declared.kinds.Member.{Member}
use Rattle.reg_terms.specs.declared.kinds.Member.TheVariants.{Person}
use Rattle.reg_terms.specs.declared.kinds.RuleForm.{RuleForm}
use Rattle.reg_terms.specs.declared.kinds.RuleForm.TheVariants.{RemoveLost, EndLost, Veto, OnCreate}
use Rattle.reg_terms.specs.declared.rows.MemberRow.{MemberRow}
use Rattle.reg_terms.specs.Rows as terms
use Rattle.reg_facts.specs.Edits.{windowed}
use Rattle.reg_terms.specs.Rows.{is_row}
use Rattle.reg_facts.specs.Events.{happened}
use Rattle.reg_facts.specs.Lists.{Lists}
use Rattle.reg_facts.specs.Sound.{AreRowsOnce}
use Rattle.reg_graph.specs.Edges.{IsAcyclic}
use Rattle.reg_effect.specs.declared.live.Live.{Live}
use Rattle.reg_effect.specs.declared.live.Change.TheVariants.{RowOff}
use Rattle.reg_effect.specs.Bound.{most_steps, most_steps_of}
use Rattle.reg_effect.specs.Changes.{changed, Suits}
use Rattle.reg_effect.specs.Edges.{edges}
use Rattle.reg_effect.specs.Order.{has_live_row}
use Rattle.reg_effect.specs.Turned.{Remembers}
use Rattle.reg_effect.proofs.Edits.{row_is}
use Rattle.reg_effect.proofs.LiveOf.{rows_on_has}
use Rattle.reg_effect.proofs.Standing.{row_off_suits}
use Rattle.reg_rules.specs.declared.actions.Action.{Action}
use Rattle.reg_rules.specs.declared.actions.Action.TheVariants.{Removed, Ended}
use Rattle.reg_rules.specs.Actions.{days_later, removal, ending, action_of, with_end, done, changes_by}
use Rattle.reg_rules.specs.Live.{Now, live, live_now, begun, row_on, IsOn, IsOnSince}
use Rattle.reg_rules.specs.Outcome.{after, CanAct, Gathered, Outcome}
use Rattle.reg_rules.specs.Settling.{listed}
use Rattle.reg_rules.proofs.Alive.{live_done, no_steps}
use Rattle.reg_rules.proofs.Outcomes.{outcome_none}
use Rattle.reg_rules.proofs.Spending.{cases_row, cases_moment}

-- ---- an action can be carried out
abbrev the : Action → Option Action → Action
the other None = other
the other (Some action) = action

same_action : (a b : Action) → Some a ≡ Some b → a ≡ b
same_action a b e = ap (the a) e

no_action : (action : Action) → None ≡ Some action → ⊥
no_action action h = cc

below : (a b : ℕ) → nat_lt a b ≡ true → a < b
below a b h = grind (arith, nat_tests, h)

same_moment : (a b : ℕ) → Some a ≡ Some b → a ≡ b
same_moment a b h = cc

no_moment : (a : ℕ) → None ≡ Some a → ⊥
no_moment a h = cc

later_by : (at end until : ℕ) → (if nat_lt at end && nat_le end GREATEST_MOMENT then Some end else None) ≡ Some until → at < until
later_by at end until h = elim (cases_Bool (nat_lt at end && nat_le end GREATEST_MOMENT)) [
  | inl y ↦
      let same : end ≡ until = same_moment end until (rw y at h) in
      let w = and_parts (nat_lt at end) (nat_le end GREATEST_MOMENT) y in
      subst (λ (x : ℕ). at < x) same (below at end w.0)
  | inr n ↦ absurd (no_moment until (rw n at h))
]

later : (at days until : ℕ) → days_later at days ≡ Some until → at < until
later at days until h = later_by at (at + days * day_micros) until h

can_remove : (now : Now) (rule g s : ℕ) (action : Action) → removal rule g s (row_on now.clock g s now.facts) ≡ Some action → CanAct now action
can_remove now rule g s action h = elim (cases_row (row_on now.clock g s now.facts)) [
  | inl none ↦ absurd (no_action action (rw none at h))
  | inr one ↦ subst (λ (a : Action). CanAct now a) (same_action (Removed rule g s) action (rw one.1 at h)) (record { row = one.0; on = one.1 })
]

can_end : (now : Now) (rule g s days : ℕ) (action : Action) → ending rule g s (days_later now.clock days) (row_on now.clock g s now.facts) ≡ Some action → CanAct now action
can_end now rule g s days action h = elim (cases_row (row_on now.clock g s now.facts)) [
  | inl none ↦ absurd (no_action action (rw none at h))
  | inr one ↦ let k = rw one.1 at h in elim (cases_moment one.0.until) [
    | inr u ↦ absurd (no_action action (rw u.1 at k))
    | inl free ↦ let l = rw free at k in elim (cases_moment (days_later now.clock days)) [
      | inl past ↦ absurd (no_action action (rw past at l))
      | inr u ↦ subst (λ (a : Action). CanAct now a) (same_action (Ended rule g s u.0) action (rw u.1 at l)) (record { row = one.0; on = one.1 }, later now.clock days u.0 u.1)
    ]
  ]
]

pub can_act : (now : Now) (rule : ℕ) (form : RuleForm) (g s : ℕ) (action : Action) → action_of now.clock rule form g s now.facts ≡ Some action → CanAct now action
can_act now rule (RemoveLost check owner) g s action h = elim (cases_Bool (check == g)) [
  | inl y ↦ can_remove now rule owner s action (rw y at h)
  | inr n ↦ absurd (no_action action (rw n at h))
]
can_act now rule (EndLost check owner days) g s action h = elim (cases_Bool (check == g)) [
  | inl y ↦ can_end now rule owner s days action (rw y at h)
  | inr n ↦ absurd (no_action action (rw n at h))
]
can_act now rule (Veto owner condition) g s action h = absurd (no_action action h)
can_act now rule (OnCreate folder scope privilege holder) g s action h = absurd (no_action action h)

-- ---- what it comes to
pub idle : (found : Option Action) (now : Now) (old : Gathered) → found ≡ None → Outcome (listed found) now now old old
idle found now old e = rw e (outcome_none now old)

pub acted : (found : Option Action) (action : Action) (now next : Now) (old new : Gathered) → found ≡ Some action → next ≡ after (action ∷ []) now → new.actions ≡ old.actions ++ action ∷ []
    → ((M : Live) → Remembers M (live_now now) old.turned → Remembers M (live_now next) new.turned) → new.steps ≤ old.steps + most_steps_of (changes_by (action ∷ [])) (live_now now) → Outcome (listed found) now next old new
acted found action now next old new e is lists told cost = rw e (record { stands = is; listed = lists; told = told; cost = cost })

-- an end takes no steps
pub end_steps : (rule g s until first last : ℕ) (now : Now) → last ≤ first → last ≤ first + most_steps_of (changes_by (Ended rule g s until ∷ [])) (live_now now)
end_steps rule g s until first last now h = let none = no_steps (live_now now) in omega (arith, none, h)

-- ---- a row that is on is found
begun_is : (at : ℕ) (found : Option MemberRow) (row : MemberRow) → begun at found ≡ Some row → (found ≡ Some row) × (nat_le row.from at ≡ true)
begun_is at None row h = let clash : ⊥ = cc in absurd clash
begun_is at (Some x) row h = elim (cases_Bool (nat_le x.from at)) [
  | inl y ↦ let e : Some x ≡ Some row = rw y at h in (e, ap (λ (o : Option MemberRow). elim o [ None ↦ true | Some r ↦ nat_le r.from at ]) (sym e) ∙ y)
  | inr n ↦ absurd (none (rw n at h))
]
  where
    none : None ≡ Some row → ⊥
    none k = cc

pub found : (now : Now) (g s : ℕ) (h : IsOn now g s) → find (is_row g (Person s)) now.facts.rows ≡ Some h.row
found now g s h = (begun_is now.clock (find (is_row g (Person s)) now.facts.rows) h.row h.on).0

pub since_is : (now : Now) (g s : ℕ) (row : MemberRow) → IsOn now g s → find (is_row g (Person s)) now.facts.rows ≡ Some row → IsOnSince now g s row.from
since_is now g s row h e = record { row = h.row; on = h.on; since = from_same (sym (found now g s h) ∙ e) }
  where
    from_same : Some h.row ≡ Some row → h.row.from ≡ row.from
    from_same k = cc

pub never_none : (now : Now) (g s : ℕ) → IsOn now g s → find (is_row g (Person s)) now.facts.rows ≡ None → ⊥
never_none now g s h e = none (sym (found now g s h) ∙ e)
  where
    none : Some h.row ≡ None → ⊥
    none k = cc

found_any : (at g : ℕ) (m : Member) (rows : List MemberRow) (row : MemberRow) → find (is_row g m) rows ≡ Some row → nat_le row.from at ≡ true → list_any (λ (r : MemberRow). nat_le r.from at && is_row g m r) rows ≡ true
found_any at g m [] row h w = let clash : ⊥ = cc in absurd clash
found_any at g m (x ∷ rows) row h w = elim (cases_Bool (is_row g m x)) [
  | inl y ↦
      let e : Some x ≡ Some row = rw y at h in
      let on : nat_le x.from at ≡ true = ap (λ (o : Option MemberRow). elim o [ None ↦ true | Some r ↦ nat_le r.from at ]) e ∙ w in
      or_left _ _ (and_from _ _ on y)
  | inr n ↦ or_right (nat_le x.from at && is_row g m x) _ (found_any at g m rows row (rw n at h) w)
]

found_has : (g : ℕ) (m : Member) (rows : List MemberRow) (row : MemberRow) → find (is_row g m) rows ≡ Some row → terms.has_row g m rows ≡ true
found_has g m [] row h = let clash : ⊥ = cc in absurd clash
found_has g m (x ∷ rows) row h = elim (cases_Bool (is_row g m x)) [
  | inl y ↦ or_left _ _ y
  | inr n ↦ or_right (is_row g m x) _ (found_has g m rows row (rw n at h))
]

-- so it stands, and can go from the live data
pub on_stands : (now : Now) (g s : ℕ) → IsOn now g s → terms.has_row g (Person s) now.facts.rows ≡ true
on_stands now g s h = found_has g (Person s) now.facts.rows h.row (found now g s h)

pub on_suits : (now : Now) (g s : ℕ) (L : Live) → L ≡ live_now now → IsAcyclic (edges L) → IsOn now g s → Suits (RowOff g (Person s)) L
on_suits now g s L e acyclic h =
    let w = begun_is now.clock (find (is_row g (Person s)) now.facts.rows) h.row h.on in
    let any = found_any now.clock g (Person s) now.facts.rows h.row w.0 w.1 in
    let has : has_live_row g (Person s) (live_now now).rows ≡ true = rows_on_has now.clock g (Person s) now.facts.rows [] ∙ or_left _ _ any in
    row_off_suits g (Person s) L (rw e has) acyclic

-- the live data without it
pub live_less : (now : Now) (g s : ℕ) (next : Lists) (L N : Live) → L ≡ live_now now → N ≡ changed (RowOff g (Person s)) L → next ≡ happened (RowRemoved g (Person s)) now.facts → N ≡ live now.clock next
live_less now g s next L N e k is = k ∙ (ap (λ (X : Live). changed (RowOff g (Person s)) X) e ∙ (sym (live_done now.clock (Removed 0 g s) now.facts) ∙ ap (live now.clock) (sym is)))

-- its steps
pub off_steps : (g s first last : ℕ) (L : Live) → last ≤ first + most_steps (RowOff g (Person s)) L → last ≤ first + most_steps_of (RowOff g (Person s) ∷ []) L
unfolding most_steps_of
off_steps g s first last L h = omega (arith, h)

-- ---- an end is one window more: no row stands twice
pub none_windowed : (from until g s : ℕ) (rows : List MemberRow) → terms.has_row g (Person s) rows ≡ false → map (windowed from (Some until) g (Person s)) rows ≡ map (with_end g s until) rows
none_windowed from until g s [] h = refl
none_windowed from until g s (row ∷ rows) h =
    let w = or_parts (is_row g (Person s) row) (terms.has_row g (Person s) rows) h in
    rw w.0 (ap (λ rest. row ∷ rest) (none_windowed from until g s rows w.1))

pub windowed_rows : (from until g s : ℕ) (rows : List MemberRow) (row : MemberRow) → AreRowsOnce rows → find (is_row g (Person s)) rows ≡ Some row → row.from ≡ from → map (windowed from (Some until) g (Person s)) rows ≡ map (with_end g s until) rows
windowed_rows from until g s [] row once h e = refl
windowed_rows from until g s (x ∷ rows) row once h e = elim (cases_Bool (is_row g (Person s) x)) [
  | inl y ↦
      let w = row_is g (Person s) x.group x.member y in
      let begins : x.from ≡ from = from_same (rw y at h) ∙ e in
      let gone : terms.has_row g (Person s) rows ≡ false = rw (w.0, w.1) at once.0 in
      rw (y, begins) (ap (λ rest. (record x { from = from; until = Some until }) ∷ rest) (none_windowed from until g s rows gone))
  | inr n ↦ rw n (ap (λ rest. x ∷ rest) (windowed_rows from until g s rows row once.1 (rw n at h) e))
]
  where
    from_same : Some x ≡ Some row → x.from ≡ row.from
    from_same k = cc

pub ended_is : (now : Now) (rule g s from until : ℕ) → AreRowsOnce now.facts.rows → IsOnSince now g s from → happened (RowRedated g (Person s) from (Some until)) now.facts ≡ done (Ended rule g s until) now.facts
ended_is now rule g s from until once h =
    let w = begun_is now.clock (find (is_row g (Person s)) now.facts.rows) h.row h.on in
    ap (λ rows. record now.facts { rows = rows }) (windowed_rows from until g s now.facts.rows h.row once w.0 h.since)

-- so the live data stay
pub live_ended : (now : Now) (g s from until : ℕ) (next : Lists) → AreRowsOnce now.facts.rows → IsOnSince now g s from → next ≡ happened (RowRedated g (Person s) from (Some until)) now.facts → live now.clock next ≡ live_now now
live_ended now g s from until next once h is = ap (live now.clock) (is ∙ ended_is now 0 g s from until once h) ∙ live_done now.clock (Ended 0 g s until) now.facts

-- an end as an action
pub ended_after : (now : Now) (action : Action) (rule g s from until : ℕ) → action ≡ Ended rule g s until → AreRowsOnce now.facts.rows → IsOnSince now g s from → record { clock = now.clock; facts = happened (RowRedated g (Person s) from (Some until)) now.facts } ≡ after (action ∷ []) now
ended_after now action rule g s from until e once h = rw e (ap (λ (x : Lists). record now { facts = x }) (ended_is now rule g s from until once h))

-- a row that is on since a moment is on
pub since_on : (now : Now) (g s from : ℕ) → IsOnSince now g s from → IsOn now g s
since_on now g s from h = record { row = h.row; on = h.on }
