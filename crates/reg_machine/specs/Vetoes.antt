-- Whom rules let be added to a group.
use Rattle.std.specs.Prelude.{◌≡◌, ◌≤◌, ⊤, ℕ, ◌==◌, true}
use Rattle.std.specs.List.{AllByRecursion}
use Rattle.reg_terms.specs.declared.kinds.RuleForm.{RuleForm}
use Rattle.reg_terms.specs.declared.kinds.RuleForm.TheVariants.{RemoveLost, EndLost, Veto, OnCreate}
use Rattle.reg_terms.specs.declared.rows.PersonRow.{PersonRow}
use Rattle.reg_terms.specs.declared.rows.RuleRow.{RuleRow}
use Rattle.reg_facts.specs.Lists.{Lists}
use Rattle.reg_effect.specs.Member.{member}
use Rattle.reg_current.specs.Live.{live}

-- a rule lets a person be added to a group at a moment: where it is a veto on the group, the person
-- is an effective member of its condition
abbrev pub Lets : ℕ → ℕ → ℕ → Lists → RuleForm → Type 0
Lets at g s f (Veto owner condition) = (owner == g) ≡ true → member (live at f) condition s ≡ true
Lets at g s f (RemoveLost check owner) = ⊤
Lets at g s f (EndLost check owner days) = ⊤
Lets at g s f (OnCreate d scope p h) = ⊤

-- and so do all rules
abbrev pub AllLet : ℕ → ℕ → ℕ → Lists → Type 0
AllLet at g s f = AllByRecursion (λ (rule : RuleRow). Lets at g s f rule.form) f.rules

-- a row of a load is of a group that the load made, or all rules let its person be added
abbrev pub IsLet : ℕ → Lists → PersonRow → Type 0
IsLet at f row = row.group ≤ f.made.groups → AllLet at row.group row.person f
