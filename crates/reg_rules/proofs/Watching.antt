-- Rules that watch another group do nothing, and vetoes on another group forbid nothing.
use Rattle.std.proofs.Common.{◌≡◌, ◌++◌, ℕ, List, [], ◌∷◌, false, None, refl, ap, inl, inr}
use Rattle.std.proofs.lemmas.Bool.{cases_Bool}
use Rattle.reg_terms.specs.Rules.{key_of, same_key}
use Rattle.reg_terms.specs.declared.kinds.RuleForm.{RuleForm}
use Rattle.reg_terms.specs.declared.kinds.RuleForm.TheVariants.{RemoveLost, EndLost, Veto, OnCreate}
use Rattle.reg_terms.specs.declared.rows.RuleRow.{RuleRow}
use Rattle.reg_terms.specs.declared.rules.RuleKey.TheVariants.{Check, Owner}
use Rattle.reg_facts.specs.Lists.{Lists}
use Rattle.reg_facts.specs.Rules.{rules_at}
use Rattle.reg_effect.specs.declared.live.Live.{Live}
use Rattle.reg_rules.specs.declared.actions.Action.{Action}
use Rattle.reg_rules.specs.Actions.{action_of, all_done}
use Rattle.reg_rules.specs.Settling.{acting, listed, rule_actions}
use Rattle.reg_rules.specs.Veto.{first_veto, vetoes}

idle : (at id : ℕ) (form : RuleForm) (g s : ℕ) (f : Lists) → same_key (key_of form) (Check g) ≡ false → action_of at id form g s f ≡ None
idle at id (RemoveLost check owner) g s f e = rw e refl
idle at id (EndLost check owner days) g s f e = rw e refl
idle at id (Veto owner condition) g s f e = refl
idle at id (OnCreate d scope p h) g s f e = refl

idle_rule : (at : ℕ) (rule : RuleRow) (g s : ℕ) (f : Lists) → same_key (key_of rule.form) (Check g) ≡ false → acting at rule g s f ≡ []
idle_rule at rule g s f e = ap listed (idle at rule.id rule.form g s f e)

-- the rules that watch a group do all that rules do for who stopped being its member
pub watching : (at : ℕ) (rules : List RuleRow) (g s : ℕ) (f : Lists) → rule_actions at (rules_at (Check g) rules) g s f ≡ rule_actions at rules g s f
watching at [] g s f = refl
watching at (rule ∷ rules) g s f = elim (cases_Bool (same_key (key_of rule.form) (Check g))) [
  | inl y ↦ rw y (ap (λ (actions : List Action). acting at rule g s f ++ actions) (watching at rules g s (all_done (acting at rule g s f) f)))
  | inr n ↦ rw (n, idle_rule at rule g s f n) (watching at rules g s f)
]

forbids_none : (L : Live) (g s : ℕ) (form : RuleForm) → same_key (key_of form) (Owner g) ≡ false → vetoes L g s form ≡ false
forbids_none L g s (RemoveLost check owner) e = refl
forbids_none L g s (EndLost check owner days) e = refl
forbids_none L g s (Veto owner condition) e = rw e refl
forbids_none L g s (OnCreate d scope p h) e = refl

-- the first veto of all rules is that of the rules on the group
pub forbidding : (L : Live) (g s : ℕ) (rules : List RuleRow) → first_veto L g s (rules_at (Owner g) rules) ≡ first_veto L g s rules
forbidding L g s [] = refl
forbidding L g s (rule ∷ rules) = elim (cases_Bool (same_key (key_of rule.form) (Owner g))) [
  | inl y ↦ elim (cases_Bool (vetoes L g s rule.form)) [
    | inl v ↦ rw (y, v) refl
    | inr w ↦ rw (y, w) (forbidding L g s rules)
  ]
  | inr n ↦ rw (n, forbids_none L g s rule.form n) (forbidding L g s rules)
]
