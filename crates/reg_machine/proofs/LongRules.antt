-- No rule that stands ends memberships after more days than it may.
use Rattle.std.proofs.Common.{◌≡◌, ◌<◌, ◌==◌, ◌&&◌, ℕ, List, [], ◌∷◌, false, refl, arith, eqb-true, inl, inr}
use Rattle.std.specs.Prelude.{nat_lt}
use Rattle.std.specs.List.{AllByRecursion}
use Rattle.std.proofs.lemmas.Bool.{cases_Bool, and_parts, false_from_ne_true, ltb-true}
use Rattle.std.proofs.lemmas.Bool.Decides.{nat_tests}
use Rattle.std.proofs.lemmas.Grind.{common_steps}
use Rattle.reg_terms.specs.Rules.{same_form}
use Rattle.reg_terms.specs.declared.kinds.RuleForm.{RuleForm}
use Rattle.reg_terms.specs.declared.kinds.RuleForm.TheVariants.{RemoveLost, EndLost, Veto, OnCreate}
use Rattle.reg_terms.specs.declared.rows.RuleRow.{RuleRow}
use Rattle.reg_facts.specs.Lists.{Lists}
use Rattle.reg_facts.specs.Ruled.{FormStands}
use Rattle.reg_facts.specs.Rules.{has_rule}

other_days : (f : Lists) (form : RuleForm) (check owner days : ℕ) → FormStands f form → 3650 < days → same_form form (EndLost check owner days) ≡ false
other_days f (EndLost c o n) check owner days stand late = false_from_ne_true ((c == check) && ((o == owner) && (n == days))) (λ t. (
    let same = eqb-true n days (and_parts (o == owner) (n == days) (and_parts (c == check) ((o == owner) && (n == days)) t).1).1 in
    omega (arith, same, stand.3, late)))
other_days f (RemoveLost c o) check owner days stand late = refl
other_days f (Veto o c) check owner days stand late = refl
other_days f (OnCreate d scope p h) check owner days stand late = refl

pub none_so_late : (f : Lists) (check owner days : ℕ) (rows : List RuleRow) → AllByRecursion (λ (row : RuleRow). FormStands f row.form) rows → 3650 < days → has_rule (EndLost check owner days) rows ≡ false
none_so_late f check owner days [] stand late = refl
none_so_late f check owner days (row ∷ rows) stand late = rw (other_days f row.form check owner days stand.0 late) (none_so_late f check owner days rows stand.1 late)

few_fit : (days : ℕ) → nat_lt 3650 days ≡ false → days < 4294967296
few_fit days h = grind (arith, nat_tests, common_steps)

-- what doesn't fit into 32 bits is more than that
pub too_many : (days : ℕ) → (days < 4294967296 → ⊥) → 3650 < days
too_many days h = elim (cases_Bool (nat_lt 3650 days)) [
  | inl t ↦ ltb-true 3650 days t
  | inr n ↦ absurd (h (few_fit days n))
]
