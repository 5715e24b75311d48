-- What actions do to the live data.
use Rattle.std.proofs.Common.{◌≡◌, ◌+◌, ℕ, List, [], ◌∷◌, ◌++◌, map, refl, ap, inl, inr, arith, if◌then◌else◌, nat_le}
use Rattle.std.proofs.lemmas.Bool.{cases_Bool}
use Rattle.std.specs.BTreeSet.{insert_key}
use Rattle.reg_terms.specs.declared.kinds.Member.{Member}
use Rattle.reg_terms.specs.declared.kinds.Member.TheVariants.{Person}
use Rattle.reg_terms.specs.declared.rows.MemberRow.{MemberRow}
use Rattle.reg_terms.specs.Rows.{is_row}
use Rattle.reg_facts.specs.Lists.{Lists}
use Rattle.reg_effect.specs.declared.live.Live.{Live}
use Rattle.reg_effect.specs.Bound.{most_steps_of}
use Rattle.reg_effect.specs.Changes.{changed_by, rows_on}
use Rattle.reg_effect.specs.Order.{row_cmp}
use Rattle.reg_effect.proofs.LiveLaws.{live_rows, live_row_less}
use Rattle.reg_rules.specs.declared.actions.Action.{Action}
use Rattle.reg_rules.specs.declared.actions.Action.TheVariants.{Removed, Ended}
use Rattle.reg_rules.specs.Actions.{with_end, done, all_done, changes_by}
use Rattle.reg_rules.specs.Live.{live}

-- a row that gets an end stays on
ended_on : (at g s until : ℕ) (rows : List MemberRow) (acc : List (ℕ × Member)) → rows_on at (map (with_end g s until) rows) acc ≡ rows_on at rows acc
ended_on at g s until [] acc = refl
ended_on at g s until (row ∷ rows) acc = elim (cases_Bool (is_row g (Person s) row)) [
  | inl y ↦ rw y (ended_on at g s until rows (if nat_le row.from at then insert_key row_cmp acc (row.group, row.member) else acc))
  | inr n ↦ rw n (ended_on at g s until rows (if nat_le row.from at then insert_key row_cmp acc (row.group, row.member) else acc))
]

-- the live data after an action
pub live_done : (at : ℕ) (action : Action) (f : Lists) → live at (done action f) ≡ changed_by (changes_by (action ∷ [])) (live at f)
live_done at (Removed rule g s) f = live_row_less at g (Person s) f.rows f.composites
live_done at (Ended rule g s until) f = live_rows (live at f) _ _ (ended_on at g s until f.rows [])

pub all_done_append : (first second : List Action) (f : Lists) → all_done (first ++ second) f ≡ all_done second (all_done first f)
all_done_append [] second f = refl
all_done_append (action ∷ first) second f = all_done_append first second (done action f)

pub rules_stay : (actions : List Action) (f : Lists) → (all_done actions f).rules ≡ f.rules
rules_stay [] f = refl
rules_stay (Removed rule g s ∷ actions) f = rules_stay actions (done (Removed rule g s) f)
rules_stay (Ended rule g s until ∷ actions) f = rules_stay actions (done (Ended rule g s until) f)

-- ---- the steps of actions
pub no_steps : (L : Live) → most_steps_of [] L ≡ 0
unfolding most_steps_of
no_steps L = refl

-- the steps of actions, one after another
pub steps_append : (at : ℕ) (first second : List Action) (f : Lists) → most_steps_of (changes_by (first ++ second)) (live at f) ≡ most_steps_of (changes_by first) (live at f) + most_steps_of (changes_by second) (live at (all_done first f))
unfolding most_steps_of
steps_append at [] second f = let none = no_steps (live at f) in omega (arith, none)
steps_append at (action ∷ first) second f = after_one action (steps_append at first second (done action f))
  where
    -- the steps of more actions are the same on the live data after the first
    same : (a : Action) (acts : List Action) → most_steps_of (changes_by acts) (live at (done a f)) ≡ most_steps_of (changes_by acts) (changed_by (changes_by (a ∷ [])) (live at f))
    same a acts = ap (λ (X : Live). most_steps_of (changes_by acts) X) (live_done at a f)

    after_one : (a : Action) → most_steps_of (changes_by (first ++ second)) (live at (done a f)) ≡ most_steps_of (changes_by first) (live at (done a f)) + most_steps_of (changes_by second) (live at (all_done first (done a f)))
        → most_steps_of (changes_by ((a ∷ first) ++ second)) (live at f) ≡ most_steps_of (changes_by (a ∷ first)) (live at f) + most_steps_of (changes_by second) (live at (all_done (a ∷ first) f))
    after_one (Removed rule g s) rest = let whole = same (Removed rule g s) (first ++ second) in let front = same (Removed rule g s) first in omega (arith, rest, whole, front)
    after_one (Ended rule g s until) rest = let whole = same (Ended rule g s until) (first ++ second) in let front = same (Ended rule g s until) first in omega (arith, rest, whole, front)
