-- What a step adds to the record: all of it, by what was noted.
use Rattle.std.proofs.Common.{◌≡◌, ◌&&◌, ◌++◌, ℕ, List, [], ◌∷◌, Bool, None, map, nat_le, if◌then◌else◌, sym, ap, ◌∙◌}
use Rattle.std.specs.List.{list_any}
use Rattle.reg_base.specs.declared.privilege.Privilege.{Privilege}
use Rattle.reg_terms.specs.declared.kinds.Holder.{Holder}
use Rattle.reg_terms.specs.declared.kinds.Object.{Object}
use Rattle.reg_facts.specs.Consumers.{consumer_place}
use Rattle.reg_facts.specs.Lists.{Lists}
use Rattle.reg_effect.specs.declared.live.Live.{Live}
use Rattle.reg_effect.specs.Member.{member}
use Rattle.reg_effect.specs.Turned.{after_turns, turns}
use Rattle.reg_log.specs.Places.{place_of}
use Rattle.reg_pit.specs.Grants.{has_grant}
use Rattle.reg_pit.specs.Past.{assigns_at, last_assign, was_member, was_granted, wheel_at, NotedBy}
use Rattle.reg_priv.specs.Grants.{grants}
use Rattle.reg_priv.specs.May.{wheel}
use Rattle.reg_priv.specs.Touched.{KnowsTouched}
use Rattle.reg_audit.specs.Assigning.{all_changed, last_after_all}
use Rattle.reg_audit.specs.Audit.{IsAudit}
use Rattle.reg_audit.specs.Changed.{changed_grants, changes_others, is_noted}
use Rattle.reg_audit.specs.Consumers.{places_after}
use Rattle.reg_audit.specs.Definitions.{all_attributes, attributes_made, definition_in, last_definition}
use Rattle.reg_audit.specs.Kept.{defined_in, life_in, name_in, named_in}
use Rattle.reg_audit.specs.Lines.{turn_line}
use Rattle.reg_audit.specs.Lives.{begun, ended, first_life, life_of, leaving, all_gone, groups_of, gone_of, last_name, gone_name, last_named, gone_named}
use Rattle.reg_audit.specs.Notes.{StepNotes, acted_notes, notes_of}
use Rattle.reg_audit.specs.Steps.{Step, FollowsOn, facts_of, consumers_by}
use Rattle.reg_audit.specs.declared.audit.Audit.{Audit}
use Rattle.reg_audit.specs.declared.gone.Gone.{Gone}
use Rattle.reg_audit.proofs.Consuming.{all_events}
use Rattle.reg_audit.proofs.Defining.{attributes_more, definition_more}
use Rattle.reg_audit.proofs.Granting.{assigns_more, granted_more, last_more_assigned, step_leaves, wheel_more}
use Rattle.reg_audit.proofs.Stepping.{last_more, life_more, log_more, gone_more, groups_more, member_more, name_more, named_more, objects_leaving}

-- ---- consumers

places_more : (steps : List Step) (step : Step) (name : List ℕ) → FollowsOn steps step → places_after name (consumer_place name (consumers_by steps)) (notes_of step.at step.before step.events).consumers ≡ consumer_place name (consumers_by (steps ++ step ∷ []))
places_more steps step name f =
    let last : consumers_by (steps ++ step ∷ []) ≡ step.after.consumers = ap (λ o. (facts_of o).consumers) (last_more steps step) in
    sym (ap (consumer_place name) (last ∙ f.consumers_after) ∙ (all_events name step.events step.before ∙ ap (λ (g : Lists). places_after name (consumer_place name g.consumers) (notes_of step.at step.before step.events).consumers) f.before))

-- ---- all of it

-- an audit after a step, by what was noted
pub record Noted (notes : StepNotes) (turned : List (ℕ × ℕ × Bool)) (after : Lists) (touched : List Object) (old new : Audit) : Type 0 where
  pub log : new.records.log ≡ old.records.log ++ (notes.lines ++ map (turn_line notes.at) turned)
  pub lives : (o : Object) → life_in new.records.lives o ≡ ended notes.at (map (λ (g : Gone). g.object) notes.gone) o (begun notes.at notes.made o (life_in old.records.lives o))
  pub names : (o : Object) → name_in new.records.departed o ≡ last_name o (name_in old.records.departed o) notes.gone
  pub named : (name : List ℕ) → named_in new.records.departed name ≡ last_named name (named_in old.records.departed name) notes.gone
  pub groups : new.records.departed.groups.items ≡ old.records.departed.groups.items ++ groups_of notes.gone
  pub defined : (a : ℕ) → defined_in new.records.definitions a ≡ last_definition a (defined_in old.records.definitions a) notes.attributes
  pub places : (name : List ℕ) → place_of new.records.places name ≡ places_after name (place_of old.records.places name) notes.consumers
  pub members : (g s t : ℕ) → was_member new.past g s t ≡ (if nat_le notes.at t then after_turns turned g s (was_member old.past g s t) else was_member old.past g s t)
  pub granted : (o : Object) (p : Privilege) (h : Holder) (t : ℕ) → was_granted new.past o p h t ≡ (if is_noted touched notes.changes_others notes.changed o (p, h) && nat_le notes.at t then has_grant (grants o after) p h else was_granted old.past o p h t)
  pub noted_wheel : (t : ℕ) → wheel_at new.past t ≡ (if nat_le notes.at t then wheel after else wheel_at old.past t)
  pub assigns : (t : ℕ) → assigns_at new.past t ≡ (if nat_le notes.at t then all_changed notes.assigns (assigns_at old.past t) else assigns_at old.past t)
  pub greatest : last_assign new.past ≡ last_after_all notes.assigns (last_assign old.past)
  pub last : NotedBy notes.at new.past

pub audit_more : (old new : Audit) (turned : List (ℕ × ℕ × Bool)) (touched : List Object) (steps : List Step) (step : Step) → ((L N : Live) (x y : ℕ) → after_turns (turns L N) x y (member L x y) ≡ member N x y)
    → IsAudit steps old → FollowsOn steps step → turned ≡ turns step.live step.live_after → KnowsTouched step.before step.after touched → Noted (acted_notes (notes_of step.at step.before step.events) step.actions) turned step.after touched old new → IsAudit (steps ++ step ∷ []) new
unfolding life_of gone_of gone_name gone_named definition_in
audit_more old new turned touched steps step law h f e knows n = record {
  log = n.log ∙ rw (h.log, e) (sym (log_more steps step));
  lives = λ o. n.lives o ∙ rw (h.lives o, objects_leaving step.before _) (sym (life_more o steps step (first_life o)));
  gone = n.groups ∙ rw h.gone (sym (ap groups_of (gone_more steps step) ∙ groups_more (all_gone steps) (leaving step.before step.events)));
  names = λ o. n.names o ∙ rw (h.names o) (sym (ap (λ xs. last_name o None xs) (gone_more steps step) ∙ name_more o (all_gone steps) (leaving step.before step.events) None));
  named = λ name. n.named name ∙ rw (h.named name) (sym (ap (λ xs. last_named name None xs) (gone_more steps step) ∙ named_more name (all_gone steps) (leaving step.before step.events) None));
  defined = λ a. n.defined a ∙ rw (h.defined a) (sym (ap (λ xs. last_definition a None xs) (attributes_more steps step) ∙ definition_more a (all_attributes steps) (attributes_made step.events) None));
  places = λ name. n.places name ∙ rw (h.places name) (places_more steps step name f);
  members = λ t g s. member_more steps step old new turned t g s h f e law (n.members g s t);
  granted = λ t o p j. granted_more steps step old new h f (is_noted touched (list_any changes_others step.events) (changed_grants step.events) o (p, j)) t o p j (step_leaves steps step touched f knows o p j) (n.granted o p j t);
  noted_wheel = λ t. wheel_more steps step old new h f t (n.noted_wheel t);
  assigns = λ t. assigns_more steps step old new h f t (n.assigns t);
  last_assigned = last_more_assigned steps step old new h f n.greatest;
  noted = rw (last_more steps step) n.last;
}
