-- All that rules do can be carried out, one action after another.
use Rattle.std.proofs.Common.{◌≡◌, ◌<◌, ◌⊎◌, ℕ, zero, suc, List, [], ◌∷◌, ◌++◌, Option, Some, None, arith, refl, sym, subst, inl, inr}
use Rattle.reg_terms.specs.declared.rows.RuleRow.{RuleRow}
use Rattle.reg_effect.specs.Deltas.{ended}
use Rattle.reg_rules.specs.declared.actions.Action.{Action}
use Rattle.reg_rules.specs.Actions.{action_of, all_done}
use Rattle.reg_rules.specs.Live.{Now, live}
use Rattle.reg_rules.specs.Following.{AllAct}
use Rattle.reg_rules.specs.Outcome.{after}
use Rattle.reg_rules.specs.Settling.{acting, rule_actions, round_actions, settling}
use Rattle.reg_rules.proofs.Acting.{can_act}
use Rattle.reg_rules.proofs.Rounds.{none_settle, settle_more}
use Rattle.reg_rules.proofs.Spending.{weight, round_spends, cases_actions}

can_append : (first second : List Action) (now : Now) → AllAct first now → AllAct second (after first now) → AllAct (first ++ second) now
can_append [] second now h k = k
can_append (action ∷ first) second now h k = (h.0, can_append first second (after (action ∷ []) now) h.1 k)

cases_found : (o : Option Action) → (o ≡ None) ⊎ ((action : Action) × (o ≡ Some action))
cases_found None = inl refl
cases_found (Some action) = inr (action, refl)

acting_can : (rule : RuleRow) (g s : ℕ) (now : Now) → AllAct (acting now.clock rule g s now.facts) now
acting_can rule g s now = elim (cases_found (action_of now.clock rule.id rule.form g s now.facts)) [
  | inl none ↦ rw none tt
  | inr some ↦ rw some.1 (can_act now rule.id rule.form g s some.0 some.1, tt)
]

rules_can : (rules : List RuleRow) (g s : ℕ) (now : Now) → AllAct (rule_actions now.clock rules g s now.facts) now
rules_can [] g s now = tt
rules_can (rule ∷ rules) g s now =
    let acts : List Action = acting now.clock rule g s now.facts in
    can_append acts (rule_actions now.clock rules g s (all_done acts now.facts)) now (acting_can rule g s now) (rules_can rules g s (after acts now))

round_can : (rules : List RuleRow) (pairs : List (ℕ × ℕ)) (now : Now) → AllAct (round_actions now.clock rules pairs now.facts) now
round_can rules [] now = tt
round_can rules (pair ∷ pairs) now =
    let acts : List Action = rule_actions now.clock rules pair.0 pair.1 now.facts in
    can_append acts (round_actions now.clock rules pairs (all_done acts now.facts)) now (rules_can rules pair.0 pair.1 now) (round_can rules pairs (after acts now))

in_rounds : (n : ℕ) (pairs : List (ℕ × ℕ)) (now : Now) → weight now.facts.rows < n → AllAct (settling pairs now.clock now.facts) now
in_rounds zero pairs now less = absurd (omega (arith, less))
in_rounds (suc n) pairs now less =
    let acts : List Action = round_actions now.clock now.facts.rules pairs now.facts in
    let next : Now = after acts now in
    let lost : List (ℕ × ℕ) = ended (live now.clock now.facts) (live now.clock next.facts) in
    elim (cases_actions acts) [
      | inl none ↦ subst (λ actions. AllAct actions now) (sym (none_settle now.clock pairs now.facts none)) tt
      | inr some ↦
          let spent = rw some.2 at (round_spends now.clock now.facts.rules pairs now.facts) in
          let fewer : weight next.facts.rows < n = rw some.2 (omega (arith, spent, less)) in
          subst (λ actions. AllAct actions now) (sym (settle_more now.clock pairs now.facts)) (can_append acts (settling lost now.clock next.facts) now (round_can now.facts.rules pairs now) (in_rounds n lost next fewer))
    ]

pub settling_can : (pairs : List (ℕ × ℕ)) (now : Now) → AllAct (settling pairs now.clock now.facts) now
settling_can pairs now = in_rounds (suc (weight now.facts.rows)) pairs now (omega arith)
