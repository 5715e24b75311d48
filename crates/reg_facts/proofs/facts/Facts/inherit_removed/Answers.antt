use Rattle.std.proofs.Common.{◌≡◌}
use Rattle.reg_terms.specs.declared.event.Event.TheVariants.{InheritRemoved}
use Rattle.reg_facts.specs.Events.{happened}
use Rattle.reg_facts.proofs.Indexing.{inherit_removed_indexed}
use Rattle.reg_facts.proofs.facts.Facts.inherit_removed.Goals as goal

pub invariant_of-facts : goal.invariant_of-facts
invariant_of-facts c =
    let is : c.remove_inherit.new.self ≡ happened (InheritRemoved c.args.row.now) c.args.self = rw (c.deref_mut.ensures.value, c.facts.view_is) at c.remove_inherit.ensures in
    rw is (inherit_removed_indexed c.facts.inside.subject_index c.facts.inside.children c.args.row.now c.args.self (rw c.facts.view_is at c.facts.invariant) c.requires)
