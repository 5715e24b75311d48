-- A command that isn't refused adds a person, or persons, only where no veto forbids that.
use Rattle.std.proofs.Common.{◌≡◌, ◌≤◌, ◌∙◌, ◌==◌, ◌&&◌, ℕ, List, [], ◌∷◌, ◌++◌, Bool, true, false, not, is_some, Option, Some, None, refl, arith, subst, ap, inl, inr}
use Rattle.std.specs.Prelude.{nat_lt, if◌then◌else◌}
use Rattle.std.specs.Option.{option_or}
use Rattle.std.proofs.lemmas.Bool.{cases_Bool, ltb-true}
use Rattle.std.proofs.lemmas.Bool.Decides.{nat_tests}
use Rattle.std.proofs.lemmas.Grind.{common_steps}
use Rattle.std.specs.List.{AllByRecursion}
use Rattle.reg_base.specs.declared.entity.Entity.{Entity}
use Rattle.reg_terms.specs.declared.command.Command.TheVariants.{Load, MemberAdd}
use Rattle.reg_terms.specs.declared.command.Stamped.{Stamped}
use Rattle.reg_terms.specs.declared.kinds.Member.{Member}
use Rattle.reg_terms.specs.declared.kinds.Member.TheVariants.{Person}
use Rattle.reg_terms.specs.declared.kinds.RuleForm.{RuleForm}
use Rattle.reg_terms.specs.declared.kinds.RuleForm.TheVariants.{RemoveLost, EndLost, Veto, OnCreate}
use Rattle.reg_terms.specs.declared.lists.LoadRow.{LoadRow}
use Rattle.reg_terms.specs.declared.rows.JobRow.{JobRow}
use Rattle.reg_terms.specs.declared.rows.PersonRow.{PersonRow}
use Rattle.reg_terms.specs.declared.rows.RuleRow.{RuleRow}
use Rattle.reg_facts.specs.Edits.{member_of, the_id}
use Rattle.reg_facts.specs.Jobs.{job_by}
use Rattle.reg_facts.specs.Lists.{Lists}
use Rattle.reg_facts.specs.Naming.{group_id}
use Rattle.reg_demand.specs.Refusing.{refused}
use Rattle.reg_effect.specs.Member.{member}
use Rattle.reg_load.specs.LoadChecks.{added_rows}
use Rattle.reg_rules.specs.Veto.{first_veto, vetoes}
use Rattle.reg_machine.specs.Checks.{all_load_checks, checks, load_of_checks, member_add_checks, row_veto, rows_veto, veto_on}
use Rattle.reg_machine.specs.History.{facts}
use Rattle.reg_machine.specs.Invariant.{IsLegal}
use Rattle.reg_current.specs.Live.{live}
use Rattle.reg_machine.specs.Refusals.{refusal}
use Rattle.reg_machine.specs.Vetoes.{AllLet, IsLet, Lets}
use Rattle.reg_machine.proofs.Allowed.{AllFail, all_fail, rest_none}

meets : (owns has : Bool) → (owns && not has) ≡ false → owns ≡ true → has ≡ true
meets true true h e = refl
meets true false h e = absurd (let clash : ⊥ = cc in clash)
meets false has h e = absurd (let clash : ⊥ = cc in clash)

lets_one : (at g s : ℕ) (f : Lists) (form : RuleForm) → vetoes (live at f) g s form ≡ false → Lets at g s f form
lets_one at g s f (Veto owner condition) h = meets (owner == g) (member (live at f) condition s) h
lets_one at g s f (RemoveLost check owner) h = tt
lets_one at g s f (EndLost check owner days) h = tt
lets_one at g s f (OnCreate d scope p form) h = tt

all_let : (at g s : ℕ) (f : Lists) (rules : List RuleRow) → first_veto (live at f) g s rules ≡ None → AllByRecursion (λ (rule : RuleRow). Lets at g s f rule.form) rules
all_let at g s f [] h = tt
all_let at g s f (rule ∷ rules) h = elim (cases_Bool (vetoes (live at f) g s rule.form)) [
  | inl y ↦ absurd (let clash : Some rule.id ≡ None = rw y at h in let no : ⊥ = cc in no)
  | inr n ↦ (lets_one at g s f rule.form n, all_let at g s f rules (rw n at h))
]

no_rule : (found : Option ℕ) → is_some found ≡ false → found ≡ None
no_rule None h = refl
no_rule (Some rule) h = absurd (let clash : ⊥ = cc in clash)

pub added_where_let : (history before after : List Stamped) (at : ℕ) (by : Entity) (key : Option (List ℕ)) (group : List ℕ) (who : Entity) (from until : Option ℕ) (s : ℕ) → IsLegal history → history ≡ before ++ (record { at = at; by = by; key = key; command = MemberAdd group who from until }) ∷ after
    → member_of who (facts before at) ≡ Some (Person s) → AllLet at (the_id (group_id group (facts before at))) s (facts before at)
unfolding checks refusal
added_where_let history before after at by key group who from until s legal is found =
    let f : Lists = facts before at in
    let fine = rest_none (refused (live at f) f by (MemberAdd group who from until)) _ (legal.allowed before after (record { at = at; by = by; key = key; command = MemberAdd group who from until }) is) in
    let a = all_fail (member_add_checks before at f group who from until) fine in
    let none : veto_on at (the_id (group_id group f)) (member_of who f) f ≡ None = no_rule _ a.1.1.1.1.1.1.1.0 in
    all_let at (the_id (group_id group f)) s f f.rules (subst (λ (m : Option Member). veto_on at (the_id (group_id group f)) m f ≡ None) found none)

-- ---- loads

none_or : {A : Type 0} (a b : Option A) → option_or a b ≡ None → (a ≡ None) × (b ≡ None)
none_or None b h = (refl, h)
none_or (Some x) b h = absurd (let clash : ⊥ = cc in clash)

row_let : (at : ℕ) (f : Lists) (row : PersonRow) → row_veto (live at f) f row ≡ None → IsLet at f row
row_let at f row h made = elim (cases_Bool (nat_lt f.made.groups row.group)) [
  | inl y ↦ let later = ltb-true f.made.groups row.group y in absurd (let clash : ⊥ = omega (arith, made, later) in clash)
  | inr n ↦ all_let at row.group row.person f f.rules (rw n at h)
]

rows_let : (at : ℕ) (f : Lists) (rows : List PersonRow) → rows_veto (live at f) f rows ≡ None → AllByRecursion (IsLet at f) rows
rows_let at f [] h = tt
rows_let at f (row ∷ rows) h = let parts = none_or (row_veto (live at f) f row) (rows_veto (live at f) f rows) h in (row_let at f row parts.0, rows_let at f rows parts.1)

pub loaded_where_let : (history before after : List Stamped) (at : ℕ) (by : Entity) (key : Option (List ℕ)) (name : List ℕ) (created : List (List ℕ)) (removed added : List LoadRow) (job : JobRow) → IsLegal history → history ≡ before ++ (record { at = at; by = by; key = key; command = Load name created removed added }) ∷ after
    → job_by name (facts before at).jobs ≡ Some job → AllByRecursion (IsLet at (facts before at)) (added_rows job created (facts before at) added)
unfolding checks refusal
loaded_where_let history before after at by key name created removed added job legal is found =
    let f : Lists = facts before at in
    let fine = rest_none (refused (live at f) f by (Load name created removed added)) _ (legal.allowed before after (record { at = at; by = by; key = key; command = Load name created removed added }) is) in
    let a = all_fail (all_load_checks before at f by name created removed added) fine in
    let b : AllFail (load_of_checks before at f by job created removed added) = rw found at a.1 in
    rows_let at f (added_rows job created f added) (no_rule _ b.1.0)
