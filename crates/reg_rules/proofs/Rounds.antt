-- What follows a round: another over what it ended, or nothing.
use Rattle.std.proofs.Common.{◌≡◌, ◌≤◌, ◌<◌, ◌+◌, ◌*◌, ◌&&◌, ℕ, suc, List, [], ◌∷◌, ◌++◌, Bool, true, false, not, filter, length, max, arith, refl, sym, ◌∙◌, ap, inl, inr}
use Rattle.reg_facts.specs.Lists.{Lists}
use Rattle.reg_effect.specs.declared.live.Live.{Live}
use Rattle.reg_effect.specs.Deltas.{top, pairs_below, is_gained, ended}
use Rattle.reg_effect.specs.Member.{member}
use Rattle.reg_rules.specs.declared.actions.Action.{Action}
use Rattle.reg_rules.specs.Actions.{all_done}
use Rattle.reg_rules.specs.Live.{live}
use Rattle.reg_rules.specs.Settling.{round_actions, settling, settle}
use Rattle.reg_rules.proofs.Alive.{all_done_append}
use Rattle.reg_rules.proofs.Spending.{weight, weight_most, round_spends, enough_rounds, settling_none, settling_some, cases_actions}

-- nothing ends where nothing changes
none_gained : (L : Live) (pairs : List (ℕ × ℕ)) → filter (is_gained L L) pairs ≡ []
none_gained L [] = refl
none_gained L (pair ∷ pairs) = rw (never (member L pair.0 pair.1)) (none_gained L pairs)
  where
    never : (b : Bool) → (b && not b) ≡ false
    never true = refl
    never false = refl

pub none_ended : (L : Live) → ended L L ≡ []
unfolding ended
none_ended L = none_gained L (pairs_below (max (top L) (top L)) (max (top L) (top L)))

-- ---- the definition, round by round
pub none_settle : (at : ℕ) (pairs : List (ℕ × ℕ)) (f : Lists) → round_actions at f.rules pairs f ≡ [] → settling pairs at f ≡ []
unfolding settling
none_settle at pairs f e = settling_none (2 * length f.rows) at pairs f e

pub some_settle : (at : ℕ) (pairs : List (ℕ × ℕ)) (f : Lists) (first : Action) (rest : List Action) → round_actions at f.rules pairs f ≡ first ∷ rest
    → settling pairs at f ≡ (first ∷ rest) ++ settling (ended (live at f) (live at (all_done (first ∷ rest) f))) at (all_done (first ∷ rest) f)
unfolding settling
some_settle at pairs f first rest e =
    let spent = rw e at (round_spends at f.rules pairs f) in
    let next : Lists = all_done (first ∷ rest) f in
    let most = weight_most f.rows in
    let least = weight_most next.rows in
    settling_some (2 * length f.rows) at pairs f first rest e ∙ (ap (λ more. (first ∷ rest) ++ more) (enough_rounds (2 * length f.rows) (suc (2 * length next.rows)) at (ended (live at f) (live at next)) next (omega (arith, spent, most)) (omega (arith, least))))

-- no pairs, no actions
pub settle_nobody : (at : ℕ) (f : Lists) → settling [] at f ≡ []
settle_nobody at f = none_settle at [] f refl

-- a round, and what follows it
pub settle_more : (at : ℕ) (pairs : List (ℕ × ℕ)) (f : Lists)
    → settling pairs at f ≡ round_actions at f.rules pairs f ++ settling (ended (live at f) (live at (all_done (round_actions at f.rules pairs f) f))) at (all_done (round_actions at f.rules pairs f) f)
settle_more at pairs f = elim (cases_actions (round_actions at f.rules pairs f)) [
  | inl none ↦ rw (none, none_ended (live at f)) (none_settle at pairs f none ∙ sym (settle_nobody at f))
  | inr some ↦ rw some.2 (some_settle at pairs f some.0 some.1 some.2)
]

-- the facts after it
pub facts_more : (at : ℕ) (pairs : List (ℕ × ℕ)) (f : Lists)
    → settle pairs at f ≡ settle (ended (live at f) (live at (all_done (round_actions at f.rules pairs f) f))) at (all_done (round_actions at f.rules pairs f) f)
facts_more at pairs f =
    let acts = round_actions at f.rules pairs f in
    ap (λ actions. all_done actions f) (settle_more at pairs f) ∙ all_done_append acts (settling (ended (live at f) (live at (all_done acts f))) at (all_done acts f)) f

-- where a round leaves the facts as they were, they stay so
pub facts_last : (at : ℕ) (pairs : List (ℕ × ℕ)) (f : Lists) → all_done (round_actions at f.rules pairs f) f ≡ f → settle pairs at f ≡ f
facts_last at pairs f same = elim (cases_actions (round_actions at f.rules pairs f)) [
  | inl none ↦ ap (λ actions. all_done actions f) (none_settle at pairs f none)
  | inr some ↦
      let spent = rw some.2 at (round_spends at f.rules pairs f) in
      let still : weight (all_done (some.0 ∷ some.1) f).rows ≡ weight f.rows = ap (λ (x : Lists). weight x.rows) (rw some.2 at same) in
      absurd (omega (arith, spent, still))
]

-- whether pairs are left
abbrev pub any : List (ℕ × ℕ) → ℕ
any [] = 0
any (pair ∷ pairs) = 1

pub none_left : (pairs : List (ℕ × ℕ)) → length pairs ≡ 0 → pairs ≡ []
none_left [] h = refl
none_left (pair ∷ pairs) h = absurd (omega (arith, h))

-- a round that acts spends, and one that doesn't is the last
pub smaller : (at : ℕ) (pairs lost : List (ℕ × ℕ)) (f next : Lists) → 0 < length pairs → next ≡ all_done (round_actions at f.rules pairs f) f → lost ≡ ended (live at f) (live at next) → any lost + weight next.rows < any pairs + weight f.rows
smaller at [] lost f next some is loses = absurd (omega (arith, some))
smaller at (pair ∷ pairs) lost f next some is loses = elim (cases_actions (round_actions at f.rules (pair ∷ pairs) f)) [
  | inl none ↦
      let same : next ≡ f = is ∙ ap (λ actions. all_done actions f) none in
      let over : lost ≡ [] = loses ∙ (ap (λ (x : Lists). ended (live at f) (live at x)) same ∙ none_ended (live at f)) in
      rw (over, same) (omega arith)
  | inr acts ↦
      let spent = rw acts.2 at (round_spends at f.rules (pair ∷ pairs) f) in
      let there : next ≡ all_done (acts.0 ∷ acts.1) f = is ∙ ap (λ actions. all_done actions f) acts.2 in
      rw there (omega (arith, spent, any_most lost))
]
  where
    any_most : (ps : List (ℕ × ℕ)) → any ps ≤ 1
    any_most [] = omega arith
    any_most (p ∷ ps) = omega arith
