use Rattle.std.proofs.Common.{◌≡◌}
use Rattle.reg_terms.specs.declared.event.Event.TheVariants.{Decomposed}
use Rattle.reg_facts.specs.Events.{happened}
use Rattle.reg_facts.proofs.Indexing.{decomposed_indexed}
use Rattle.reg_facts.proofs.facts.Facts.decomposed.Goals as goal

pub invariant_of-facts : goal.invariant_of-facts
invariant_of-facts c =
    let is : c.remove_composite.new.self ≡ happened (Decomposed c.args.group) c.args.self = rw (c.deref_mut.ensures.value, c.facts.view_is) at c.remove_composite.ensures in
    rw is (decomposed_indexed c.facts.inside.subject_index c.facts.inside.children c.args.group c.args.self (rw c.facts.view_is at c.facts.invariant) c.requires)
