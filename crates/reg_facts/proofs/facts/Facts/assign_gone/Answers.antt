use Rattle.std.proofs.Common.{◌≡◌}
use Rattle.reg_terms.specs.declared.event.Event.TheVariants.{AssignGone}
use Rattle.reg_facts.specs.Events.{happened}
use Rattle.reg_facts.proofs.Indexing.{assign_gone_indexed}
use Rattle.reg_facts.proofs.facts.Facts.assign_gone.Goals as goal

pub invariant_of-facts : goal.invariant_of-facts
invariant_of-facts c =
    let is : c.remove_assign.new.self ≡ happened (AssignGone c.args.id) c.args.self = rw (c.deref_mut.ensures.value, c.facts.view_is) at c.remove_assign.ensures in
    rw is (assign_gone_indexed c.facts.inside.subject_index c.facts.inside.children c.args.id c.args.self (rw c.facts.view_is at c.facts.invariant) c.requires)
