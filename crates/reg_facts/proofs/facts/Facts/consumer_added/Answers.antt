use Rattle.std.proofs.Common.{◌≡◌}
use Rattle.reg_terms.specs.declared.event.Event.TheVariants.{ConsumerAdded}
use Rattle.reg_facts.specs.Events.{happened}
use Rattle.reg_facts.proofs.Happening.{on_ok, on_finished}
use Rattle.reg_facts.proofs.Indexing.{consumer_added_indexed}
use Rattle.reg_facts.proofs.facts.Facts.consumer_added.Goals as goal

pub finished-requires : goal.finished-requires
finished-requires c = on_ok c.push_consumer-done.result c.push_consumer-done.ensures (λ done.
    let is : c.push_consumer-done.new.self ≡ happened (ConsumerAdded c.args.row) c.args.self = rw (c.deref_mut.ensures.value, c.self.view_is) at done in
    rw is (consumer_added_indexed c.self.inside.subject_index c.self.inside.children c.args.row c.args.self (rw c.self.view_is at c.self.invariant) c.requires))

pub returns : goal.returns
returns c = on_finished c.push_consumer-done.result c.finished.result c.push_consumer-done.new.self (happened (ConsumerAdded c.args.row) c.args.self) c.finished.ensures.made c.finished.ensures.facts (rw (c.deref_mut.ensures.value, c.self.view_is) at c.push_consumer-done.ensures)
