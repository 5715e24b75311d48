-- Which rows rules may act on: persons' rows of the groups that own a rule which takes rows away,
-- or gives them an end.
use Rattle.std.specs.Prelude.{ℕ, ◌==◌, List, Bool, false}
use Rattle.std.specs.List.{list_any}
use Rattle.reg_terms.specs.declared.kinds.Member.{Member}
use Rattle.reg_terms.specs.declared.kinds.Member.TheVariants.{Person, Group}
use Rattle.reg_terms.specs.declared.kinds.RuleForm.{RuleForm}
use Rattle.reg_terms.specs.declared.kinds.RuleForm.TheVariants.{RemoveLost, EndLost, Veto, OnCreate}
use Rattle.reg_terms.specs.declared.rows.RuleRow.{RuleRow}

-- whether a rule takes away a group's rows, or gives them an end
abbrev pub owns : ℕ → RuleForm → Bool
owns g (RemoveLost check owner) = owner == g
owns g (EndLost check owner days) = owner == g
owns g (Veto owner condition) = false
owns g (OnCreate folder scope privilege holder) = false

-- whether some rule may do so with a group's row of a member: a row of a nested group none does
abbrev pub may_lose : ℕ → Member → List RuleRow → Bool
may_lose g (Person s) rules = list_any (λ (rule : RuleRow). owns g rule.form) rules
may_lose g (Group h) rules = false
