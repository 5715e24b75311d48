use Rattle.std.proofs.Common.{◌≡◌, ap, subst}
use Rattle.reg_facts.specs.Lists.{Lists}
use Rattle.reg_audit.specs.Notes.{StepNotes, acted_notes, notes_of}
use Rattle.reg_audit.specs.declared.audit.Audit.{Audit}
use Rattle.reg_audit.proofs.Adding.{Noted, audit_more}
use Rattle.reg_audit.proofs.audit.Audit.note.Goals as goal

-- what the step changes, turns and touches is all that is added
pub returns : goal.returns
returns c steps step h f e t after knows =
    let same : c.notes.inside.at ≡ c.args.notes.at = ap (λ (n : StepNotes). n.at) c.notes.view_is in
    let new : Audit = record { records = c.note.new.self; past = c.in_ok-past.past } in
    let noted : Noted c.args.notes c.args.turned.now c.args.facts.now c.args.touched.now c.args.self new = record {
      log = c.in_ok-note.ensures.log;
      lives = c.in_ok-note.ensures.lives;
      names = c.in_ok-note.ensures.names;
      named = c.in_ok-note.ensures.named;
      groups = c.in_ok-note.ensures.groups;
      defined = c.in_ok-note.ensures.defined;
      places = c.in_ok-note.ensures.places;
      members = rw same at c.in_ok-past.ensures.members;
      granted = rw (same, ap (λ (n : StepNotes). n.changes_others) c.notes.view_is, c.deref.ensures.value, c.into_changes-assigns.ensures.grants) at c.in_ok-past.ensures.grants;
      noted_wheel = rw same at c.in_ok-past.ensures.wheel;
      assigns = rw (same, c.into_changes-assigns.ensures.assigns) at c.in_ok-past.ensures.assigns;
      greatest = rw c.into_changes-assigns.ensures.assigns at c.in_ok-past.ensures.greatest;
      last = rw same at c.in_ok-past.ensures.last;
    } in
    audit_more c.args.self new c.args.turned.now c.args.touched.now steps step c.law_turns.ensures h f t knows
    (subst (λ (g : Lists). Noted (acted_notes (notes_of step.at step.before step.events) step.actions) c.args.turned.now g c.args.touched.now c.args.self new) after (subst (λ (n : StepNotes). Noted n c.args.turned.now c.args.facts.now c.args.touched.now c.args.self new) e noted))
