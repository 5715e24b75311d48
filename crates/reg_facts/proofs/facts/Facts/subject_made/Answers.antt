use Rattle.std.proofs.Common.{◌≡◌}
use Rattle.reg_terms.specs.declared.event.Event.TheVariants.{SubjectMade}
use Rattle.reg_facts.specs.Events.{happened}
use Rattle.reg_facts.proofs.Happening.{on_both, on_finished}
use Rattle.reg_facts.proofs.Indexing.{subject_made_indexed}
use Rattle.reg_facts.proofs.facts.Facts.subject_made.Goals as goal

-- the maps find what the lists hold, the new subject too
pub finished-requires : goal.finished-requires
finished-requires c = on_both c.insert-put.result c.push_subject.result c.both-done.result c.both-done.ensures c.insert-put.ensures c.push_subject.ensures (λ put done.
    let is : c.push_subject.new.self ≡ happened (SubjectMade c.args.row) c.args.self = rw (c.deref_mut.ensures.value, c.self.view_is) at done in
    rw is (subject_made_indexed c.self.inside.subject_index c.insert-put.new.self c.self.inside.children c.args.row c.args.self
    (rw c.self.view_is at c.self.invariant) c.requires (λ t. rw (← c.as_str.ensures, ← c.number.ensures) (put t))))

pub returns : goal.returns
returns c = on_finished c.both-done.result c.finished.result c.push_subject.new.self (happened (SubjectMade c.args.row) c.args.self) c.finished.ensures.made c.finished.ensures.facts (on_both c.insert-put.result c.push_subject.result c.both-done.result c.both-done.ensures c.insert-put.ensures (rw (c.deref_mut.ensures.value, c.self.view_is) at c.push_subject.ensures) (λ put done. done))
