-- What the record of the steps tells of assignments, said of the history.
use Rattle.std.proofs.Common.{◌≡◌, ◌≤◌, ℕ, List, arith, ap, subst, sym, ◌∙◌}
use Rattle.std.specs.List.{AllByRecursion}
use Rattle.reg_terms.specs.declared.command.Stamped.{Stamped}
use Rattle.reg_terms.specs.declared.kinds.Object.{Object}
use Rattle.reg_terms.specs.declared.rows.AssignRow.{AssignRow}
use Rattle.reg_facts.specs.Attributes.{assigns_on}
use Rattle.reg_facts.specs.Lists.{Lists}
use Rattle.reg_pit.specs.Past.{NotedBy, assigns_at}
use Rattle.reg_pit.specs.declared.past.Past.{Past}
use Rattle.reg_audit.specs.Audit.{IsAudit}
use Rattle.reg_audit.specs.Steps.{Step, facts_by, last_moment}
use Rattle.reg_machine.specs.History.{State, facts}
use Rattle.reg_machine.specs.Past.{steps}
use Rattle.reg_machine.specs.Recording.{IsRecorded, Recording}
use Rattle.reg_machine.proofs.Lived.{last_moment_by}

module _ (history : List Stamped) (r : Recording) (s : State) (h : IsRecorded history r) (is : record { history = history; clock = r.now.clock } ≡ s) (kept : Past) where
  pub assigns_told : ((ss : List Step) → IsAudit ss r.audit → (t : ℕ) → assigns_at kept t ≡ (facts_by t ss).assigns) → (t : ℕ) (o : Object) → t ≤ s.clock → assigns_on o (assigns_at kept t) ≡ assigns_on o (facts s.history t).assigns
  assigns_told told t o w = subst (λ (y : State). t ≤ y.clock → assigns_on o (assigns_at kept t) ≡ assigns_on o (facts y.history t).assigns) is
      (λ v. ap (assigns_on o) (told (steps history r.now.clock) h.audit t ∙ ap (λ (f : Lists). f.assigns) (h.lived.left t v))) w

  -- what stayed by the record stayed by the history
  pub stays_told : ((ss : List Step) → IsAudit ss r.audit → (t : ℕ) → assigns_at kept t ≡ (facts_by t ss).assigns) → (u t : ℕ) (o : Object) → u ≤ t → t ≤ s.clock → assigns_on o (assigns_at kept t) ≡ assigns_on o (assigns_at kept u)
      → assigns_on o (facts s.history t).assigns ≡ assigns_on o (facts s.history u).assigns
  stays_told told u t o w by same = sym (assigns_told told t o by) ∙ (same ∙ assigns_told told u o (omega (arith, w, by)))

  -- what was noted was noted by the clock
  pub noted_told : ((ss : List Step) → IsAudit ss r.audit → NotedBy (last_moment ss) kept) → ((a b : ℕ) → a ≤ b → NotedBy a kept → NotedBy b kept) → (moments : List ℕ) → ((now : ℕ) → NotedBy now kept → AllByRecursion (λ m. m ≤ now) moments) → AllByRecursion (λ m. m ≤ s.clock) moments
  noted_told last later moments all = subst (λ (y : State). AllByRecursion (λ m. m ≤ y.clock) moments) is
      (all r.now.clock (later (last_moment (steps history r.now.clock)) r.now.clock (last_moment_by r.now.clock (steps history r.now.clock) h.lived.by) (last (steps history r.now.clock) h.audit)))
