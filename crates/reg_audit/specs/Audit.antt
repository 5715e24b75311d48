-- What the steps of a registry leave for later.
use Rattle.std.specs.Prelude.{◌≡◌, ℕ, List}
use Rattle.reg_base.specs.declared.privilege.Privilege.{Privilege}
use Rattle.reg_facts.specs.Consumers.{consumer_place}
use Rattle.reg_effect.specs.Member.{member}
use Rattle.reg_log.specs.Places.{place_of}
use Rattle.reg_pit.specs.Grants.{has_grant}
use Rattle.reg_pit.specs.Past.{assigns_at, last_assign, was_member, was_granted, wheel_at, NotedBy}
use Rattle.reg_priv.specs.Grants.{grants}
use Rattle.reg_priv.specs.May.{wheel}
use Rattle.reg_terms.specs.declared.kinds.Holder.{Holder}
use Rattle.reg_terms.specs.declared.kinds.Object.{Object}
use Rattle.reg_audit.specs.Definitions.{definition_in}
use Rattle.reg_audit.specs.Kept.{defined_in, life_in, name_in, named_in}
use Rattle.reg_audit.specs.Lines.{log_of}
use Rattle.reg_audit.specs.Lives.{life_of, gone_of, gone_name, gone_named}
use Rattle.reg_audit.specs.Steps.{Step, last_facts, last_moment, live_by, facts_by, consumers_by}
use Rattle.reg_audit.specs.declared.audit.Audit.{Audit}

-- the log, the lives, the names, the definitions, the places and the past are those of the steps,
-- nothing was noted later than the last one, and the last assignment that was noted is the last
-- that was made
pub record IsAudit (steps : List Step) (audit : Audit) : Type 0 where
  pub log : audit.records.log ≡ log_of steps
  pub lives : (o : Object) → life_in audit.records.lives o ≡ life_of o steps
  pub gone : audit.records.departed.groups.items ≡ gone_of steps
  pub names : (o : Object) → name_in audit.records.departed o ≡ gone_name o steps
  pub named : (name : List ℕ) → named_in audit.records.departed name ≡ gone_named name steps
  pub defined : (a : ℕ) → defined_in audit.records.definitions a ≡ definition_in a steps
  pub places : (name : List ℕ)
      → place_of audit.records.places name ≡ consumer_place name (consumers_by steps)
  pub members : (t g s : ℕ) → was_member audit.past g s t ≡ member (live_by t steps) g s
  pub granted : (t : ℕ) (o : Object) (p : Privilege) (h : Holder)
      → was_granted audit.past o p h t ≡ has_grant (grants o (facts_by t steps)) p h
  pub noted_wheel : (t : ℕ) → wheel_at audit.past t ≡ wheel (facts_by t steps)
  pub assigns : (t : ℕ) → assigns_at audit.past t ≡ (facts_by t steps).assigns
  pub last_assigned : last_assign audit.past ≡ (last_facts steps).made.assigns
  pub noted : NotedBy (last_moment steps) audit.past
