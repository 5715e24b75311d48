-- Which rule forbids a person to be added to a group.
use Rattle.std.specs.Prelude.{ℕ, ◌==◌, ◌&&◌, not, List, [], ◌∷◌, Bool, false, Option, Some, None}
use Rattle.std.specs.Prelude.{if◌then◌else◌}
use Rattle.reg_terms.specs.declared.kinds.RuleForm.{RuleForm}
use Rattle.reg_terms.specs.declared.kinds.RuleForm.TheVariants.{RemoveLost, EndLost, Veto, OnCreate}
use Rattle.reg_terms.specs.declared.rows.RuleRow.{RuleRow}
use Rattle.reg_effect.specs.declared.live.Live.{Live}
use Rattle.reg_effect.specs.Member.{member}

-- whether a rule vetoes a person in a group: it is a veto on the group, and the person isn't a
-- member of its condition
abbrev pub vetoes : Live → ℕ → ℕ → RuleForm → Bool
vetoes L g s (Veto owner condition) = (owner == g) && not (member L condition s)
vetoes L g s (RemoveLost check owner) = false
vetoes L g s (EndLost check owner days) = false
vetoes L g s (OnCreate folder scope privilege holder) = false

-- the first vetoing rule by id
abbrev pub first_veto : Live → ℕ → ℕ → List RuleRow → Option ℕ
first_veto L g s [] = None
first_veto L g s (rule ∷ rules) =
    if vetoes L g s rule.form then Some rule.id else first_veto L g s rules
