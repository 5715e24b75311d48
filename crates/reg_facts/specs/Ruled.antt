-- What is true of the rules of every history: ids ascend, no two say the same, what they speak of
-- stands, and days are in their range.
use Rattle.std.specs.Prelude.{◌≡◌, ◌≤◌, ⊤, List, [], ◌∷◌, true, false, map}
use Rattle.std.specs.List.{AllByRecursion}
use Rattle.reg_terms.specs.declared.kinds.Object.TheVariants.{Folder}
use Rattle.reg_terms.specs.declared.kinds.RuleForm.{RuleForm}
use Rattle.reg_terms.specs.declared.kinds.RuleForm.TheVariants.{RemoveLost, EndLost, Veto, OnCreate}
use Rattle.reg_terms.specs.declared.rows.RuleRow.{RuleRow}
use Rattle.reg_facts.specs.Lists.{Lists}
use Rattle.reg_facts.specs.Rules.{has_rule}
use Rattle.reg_facts.specs.Sound.{Ascend, HolderStands, has_group, is_named}

-- what a rule speaks of stands
abbrev pub FormStands : Lists → RuleForm → Type 0
FormStands f (RemoveLost check owner) =
    (has_group check f.groups ≡ true) × (has_group owner f.groups ≡ true)
FormStands f (EndLost check owner days) =
    (has_group check f.groups ≡ true) × (has_group owner f.groups ≡ true) × (1 ≤ days)
    × (days ≤ 3650)
FormStands f (Veto owner condition) =
    (has_group owner f.groups ≡ true) × (has_group condition f.groups ≡ true)
FormStands f (OnCreate d scope p h) =
    (is_named (Folder d) f ≡ true) × HolderStands f.subjects f.groups h

-- no two rules say the same
abbrev pub AreRulesOnce : List RuleRow → Type 0
AreRulesOnce [] = ⊤
AreRulesOnce (row ∷ rows) = (has_rule row.form rows ≡ false) × AreRulesOnce rows

pub record AreRuled (f : Lists) : Type 0 where
  pub ascend : Ascend f.made.rules (map (λ (row : RuleRow). row.id) f.rules)
  pub once : AreRulesOnce f.rules
  pub stand : AllByRecursion (λ (row : RuleRow). FormStands f row.form) f.rules
