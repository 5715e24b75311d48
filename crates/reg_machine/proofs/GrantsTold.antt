-- What the record of the steps tells of grants and of the wheel group, said of the history.
use Rattle.std.proofs.Common.{◌≡◌, ◌≤◌, ℕ, List, Bool, ap, subst, ◌∙◌}
use Rattle.std.specs.List.Sorted.{IsStrictlySortedBy}
use Rattle.reg_base.specs.declared.privilege.Privilege.{Privilege}
use Rattle.reg_terms.specs.declared.command.Stamped.{Stamped}
use Rattle.reg_terms.specs.declared.kinds.Holder.{Holder}
use Rattle.reg_terms.specs.declared.kinds.Object.{Object}
use Rattle.reg_facts.specs.Lists.{Lists}
use Rattle.reg_pit.specs.Grants.{has_grant, held_cmp}
use Rattle.reg_pit.specs.Past as past
use Rattle.reg_pit.specs.Past.{NotedBy, wheel_at}
use Rattle.reg_pit.specs.Spans.{spans_until}
use Rattle.reg_pit.specs.declared.past.Past.{Past}
use Rattle.reg_priv.specs.Grants.{Grant, grants}
use Rattle.reg_priv.specs.Holders.{holders}
use Rattle.reg_priv.specs.May.{wheel}
use Rattle.reg_audit.specs.Audit.{IsAudit}
use Rattle.reg_audit.specs.Steps.{Step, facts_by, last_moment}
use Rattle.reg_audit.proofs.OrderedGrants.{are_holders}
use Rattle.reg_machine.specs.History.{State, facts}
use Rattle.reg_machine.specs.Past.{grant_spans, steps, was_granted}
use Rattle.reg_machine.specs.Recording.{IsRecorded, Recording}
use Rattle.reg_machine.proofs.Lived.{last_moment_by}

module _ (history : List Stamped) (r : Recording) (s : State) (h : IsRecorded history r) (is : record { history = history; clock = r.now.clock } ≡ s) (kept : Past) where
  -- ---- the wheel group

  pub wheel_told : ((ss : List Step) → IsAudit ss r.audit → (t : ℕ) → wheel_at kept t ≡ wheel (facts_by t ss)) → (t : ℕ) → t ≤ s.clock → wheel_at kept t ≡ wheel (facts s.history t)
  wheel_told told t w = subst (λ (y : State). t ≤ y.clock → wheel_at kept t ≡ wheel (facts y.history t)) is
      (λ v. told (steps history r.now.clock) h.audit t ∙ ap wheel (h.lived.left t v)) w

  -- ---- who held what

  module _ (told : (ss : List Step) → IsAudit ss r.audit → (t : ℕ) (o : Object) (p : Privilege) (j : Holder) → past.was_granted kept o p j t ≡ has_grant (grants o (facts_by t ss)) p j) where
    was : (t : ℕ) (o : Object) (p : Privilege) (j : Holder) → t ≤ r.now.clock → past.was_granted kept o p j t ≡ was_granted history t o p j
    was t o p j w = told (steps history r.now.clock) h.audit t o p j ∙ ap (λ (f : Lists). has_grant (grants o f) p j) (h.lived.left t w)

    pub granted_told : (t : ℕ) (o : Object) (p : Privilege) (j : Holder) → t ≤ s.clock → past.was_granted kept o p j t ≡ was_granted s.history t o p j
    granted_told t o p j w = subst (λ (y : State). t ≤ y.clock → past.was_granted kept o p j t ≡ was_granted y.history t o p j) is (λ v. was t o p j v) w

    pub grants_told : (t : ℕ) (o : Object) (list : List Grant) → t ≤ s.clock → IsStrictlySortedBy held_cmp list → ((p : Privilege) (j : Holder) → has_grant list p j ≡ past.was_granted kept o p j t) → list ≡ holders o (facts s.history t)
    grants_told t o list w sorted has = are_holders o (facts s.history t) list sorted (λ p j. has p j ∙ granted_told t o p j w)

    -- ---- from when until when

    module _ (last : (ss : List Step) → IsAudit ss r.audit → NotedBy (last_moment ss) kept) (later : (a b : ℕ) → a ≤ b → NotedBy a kept → NotedBy b kept) where
      noted : NotedBy r.now.clock kept
      noted = later (last_moment (steps history r.now.clock)) r.now.clock (last_moment_by r.now.clock (steps history r.now.clock) h.lived.by) (last (steps history r.now.clock) h.audit)

      pub grant_spans_told : (o : Object) (p : Privilege) (j : Holder)
          → ((test : ℕ → Bool) (now : ℕ) (x : Object) (q : Privilege) (i : Holder) → NotedBy now kept → ((t : ℕ) → t ≤ now → past.was_granted kept x q i t ≡ test t) → past.grant_spans kept x q i ≡ spans_until test now)
          → past.grant_spans kept o p j ≡ grant_spans s.history s.clock o p j
      unfolding grant_spans
      grant_spans_told o p j until = subst (λ (y : State). past.grant_spans kept o p j ≡ grant_spans y.history y.clock o p j) is (until (λ t. was_granted history t o p j) r.now.clock o p j noted (λ t w. was t o p j w))
