-- Which rules take away a group's row from who stops being a member of another.
use Rattle.std.specs.Prelude.{ℕ, ◌==◌, ◌&&◌, List, Bool, false}
use Rattle.std.specs.List.{list_any}
use Rattle.reg_terms.specs.declared.kinds.RuleForm.{RuleForm}
use Rattle.reg_terms.specs.declared.kinds.RuleForm.TheVariants.{RemoveLost, EndLost, Veto, OnCreate}
use Rattle.reg_terms.specs.declared.rows.RuleRow.{RuleRow}

-- whether a rule takes the owner's row away from who stops being a member of a group
abbrev pub removes_lost : ℕ → ℕ → RuleForm → Bool
removes_lost g owner (RemoveLost check other) = (check == g) && (other == owner)
removes_lost g owner (EndLost check other days) = false
removes_lost g owner (Veto other condition) = false
removes_lost g owner (OnCreate folder scope privilege holder) = false

-- whether some rule does
abbrev pub has_removal : ℕ → ℕ → List RuleRow → Bool
has_removal g owner rules = list_any (λ (rule : RuleRow). removes_lost g owner rule.form) rules
