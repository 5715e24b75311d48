-- What a rule does can happen to what stands, and what it takes.
use Rattle.std.proofs.Common.{◌≡◌, ◌≤◌, ◌<◌, ◌+◌, ◌&&◌, ℕ, List, [], ◌∷◌, true, Option, Some, None, nat_le, arith, sym, ◌∙◌, ap, inl, inr}
use Rattle.std.proofs.lemmas.Bool.{cases_Bool, or_left, or_right, and_from}
use Rattle.std.proofs.lemmas.Bool.Decides.{nat_tests}
use Rattle.std.specs.List.{find, list_any}
use Rattle.reg_terms.specs.declared.event.Event.TheVariants.{RowRemoved, RowRedated}
use Rattle.reg_terms.specs.declared.kinds.Member.{Member}
use Rattle.reg_terms.specs.declared.kinds.Member.TheVariants.{Person}
use Rattle.reg_terms.specs.declared.rows.MemberRow.{MemberRow}
use Rattle.reg_terms.specs.Rows.{is_row}
use Rattle.reg_facts.specs.Lists.{Lists}
use Rattle.reg_effect.specs.declared.live.Change.TheVariants.{RowOff}
use Rattle.reg_effect.specs.Bound.{most_steps_of}
use Rattle.reg_effect.specs.Order.{has_live_row}
use Rattle.reg_effect.proofs.LiveOf.{rows_on_has}
use Rattle.reg_rules.specs.declared.actions.Action.{Action}
use Rattle.reg_rules.specs.Actions.{all_done}
use Rattle.reg_rules.specs.Live.{Now, live_now, begun, IsOn, IsOnSince}
use Rattle.reg_rules.specs.Settling.{settle, settling}
use Rattle.reg_rules.proofs.Acting.{on_stands, since_on}
use Rattle.reg_rules.proofs.Alive.{no_steps}
use Rattle.reg_rules.proofs.Rounds.{settle_nobody}
use Rattle.reg_current.specs.Holding.{Holds}
use Rattle.reg_current.specs.Invariant as current
use Rattle.reg_current.specs.Steps.{changes_of, event_steps}

-- ---- a row that is on has begun, and is live
begun_is : (at : ℕ) (found : Option MemberRow) (row : MemberRow) → begun at found ≡ Some row → (found ≡ Some row) × (nat_le row.from at ≡ true)
begun_is at None row h = let clash : ⊥ = cc in absurd clash
begun_is at (Some x) row h = elim (cases_Bool (nat_le x.from at)) [
  | inl y ↦ let e : Some x ≡ Some row = rw y at h in (e, ap (λ (o : Option MemberRow). elim o [ None ↦ true | Some r ↦ nat_le r.from at ]) (sym e) ∙ y)
  | inr n ↦ absurd (none (rw n at h))
]
  where
    none : None ≡ Some row → ⊥
    none k = cc

found_on : (at g : ℕ) (m : Member) (rows : List MemberRow) (row : MemberRow) → find (is_row g m) rows ≡ Some row → nat_le row.from at ≡ true → list_any (λ (r : MemberRow). nat_le r.from at && is_row g m r) rows ≡ true
found_on at g m [] row h w = let clash : ⊥ = cc in absurd clash
found_on at g m (x ∷ rows) row h w = elim (cases_Bool (is_row g m x)) [
  | inl y ↦
      let e : Some x ≡ Some row = rw y at h in
      let on : nat_le x.from at ≡ true = ap (λ (o : Option MemberRow). elim o [ None ↦ true | Some r ↦ nat_le r.from at ]) e ∙ w in
      or_left _ _ (and_from _ _ on y)
  | inr n ↦ or_right (nat_le x.from at && is_row g m x) _ (found_on at g m rows row (rw n at h) w)
]

on_live : (now : Now) (g s : ℕ) → IsOn now g s → has_live_row g (Person s) (live_now now).rows ≡ true
on_live now g s h =
    let w = begun_is now.clock (find (is_row g (Person s)) now.facts.rows) h.row h.on in
    rows_on_has now.clock g (Person s) now.facts.rows [] ∙ or_left _ _ (found_on now.clock g (Person s) now.facts.rows h.row w.0 w.1)

since_begun : (now : Now) (g s from : ℕ) → IsOnSince now g s from → nat_le from now.clock ≡ true
since_begun now g s from h = ap (λ (x : ℕ). nat_le x now.clock) (sym h.since) ∙ (begun_is now.clock (find (is_row g (Person s)) now.facts.rows) h.row h.on).1

at_most : (a b : ℕ) → nat_le a b ≡ true → a ≤ b
at_most a b h = grind (arith, nat_tests, h)

-- ---- it can go, and it can end later
pub off_holds : (now : Now) (g s : ℕ) → IsOn now g s → Holds now.clock (RowRemoved g (Person s)) now.facts
off_holds now g s h = record { suits = on_stands now g s h; no_circle = tt; later = tt }

pub end_holds : (now : Now) (g s from until : ℕ) → IsOnSince now g s from → now.clock < until → Holds now.clock (RowRedated g (Person s) from (Some until)) now.facts
end_holds now g s from until h later =
    let began = at_most from now.clock (since_begun now g s from h) in
    record { suits = on_stands now g s (since_on now g s from h); no_circle = tt; later = (later, omega (arith, began, later)) }

-- the steps of a row that goes are those of its change, and an end takes none
pub off_cost : (now : Now) (g s first last : ℕ) → IsOn now g s → last ≤ first + event_steps now.clock (RowRemoved g (Person s)) now.facts → last ≤ first + most_steps_of (RowOff g (Person s) ∷ []) (live_now now)
unfolding changes_of
off_cost now g s first last h le = rw (on_live now g s h) at le

pub end_cost : (now : Now) (g s from until first last : ℕ) → IsOnSince now g s from → last ≤ first + event_steps now.clock (RowRedated g (Person s) from (Some until)) now.facts → last ≤ first
unfolding changes_of
end_cost now g s from until first last h le =
    let most : last ≤ first + most_steps_of [] (live_now now) = rw (on_live now g s (since_on now g s from h), since_begun now g s from h) at le in
    let none = no_steps (live_now now) in
    omega (arith, none, most)

-- ---- where no membership ended, nothing follows
pub none_follow : (pairs : List (ℕ × ℕ)) (at : ℕ) (f : Lists) → pairs ≡ [] → settling pairs at f ≡ []
none_follow pairs at f e = rw e (settle_nobody at f)

abbrev standing_at : ℕ → Lists → current.Now
standing_at at f = record { clock = at; facts = f }

pub none_stand : (pairs : List (ℕ × ℕ)) (now : current.Now) → pairs ≡ [] → now ≡ record { clock = now.clock; facts = settle pairs now.clock now.facts }
none_stand pairs now e = ap (λ (actions : List Action). standing_at now.clock (all_done actions now.facts)) (sym (none_follow pairs now.clock now.facts e))
