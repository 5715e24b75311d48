use Rattle.std.proofs.Common.{◌≡◌}
use Rattle.reg_terms.specs.declared.event.Event.TheVariants.{ConsumerAcked}
use Rattle.reg_facts.specs.Events.{happened}
use Rattle.reg_facts.proofs.Indexing.{consumer_acked_indexed}
use Rattle.reg_facts.proofs.facts.Facts.consumer_acked.Goals as goal

pub invariant_of-facts : goal.invariant_of-facts
invariant_of-facts c =
    let is : c.acknowledge.new.self ≡ happened (ConsumerAcked c.args.consumer.now c.args.seq) c.args.self = rw (c.deref_mut.ensures.value, c.facts.view_is) at c.acknowledge.ensures in
    rw is (consumer_acked_indexed c.facts.inside.subject_index c.facts.inside.children c.args.consumer.now c.args.seq c.args.self (rw c.facts.view_is at c.facts.invariant) c.requires)
