use Rattle.std.proofs.Common.{◌≡◌}
use Rattle.reg_terms.specs.declared.event.Event.TheVariants.{AttributeGone}
use Rattle.reg_facts.specs.Events.{happened}
use Rattle.reg_facts.proofs.Indexing.{attribute_gone_indexed}
use Rattle.reg_facts.proofs.facts.Facts.attribute_gone.Goals as goal

-- the maps find what the lists hold after the event
pub invariant_of-facts : goal.invariant_of-facts
invariant_of-facts c =
    let is : c.remove_attribute.new.self ≡ happened (AttributeGone c.args.id) c.args.self = rw (c.deref_mut.ensures.value, c.facts.view_is) at c.remove_attribute.ensures in
    rw is (attribute_gone_indexed c.facts.inside.subject_index c.facts.inside.children c.take.new.self c.args.id _ c.args.self
    (rw c.facts.view_is at c.facts.invariant) c.requires (rw (c.deref.ensures, c.facts.view_is) at c.the_place-place.ensures) (λ x y. rw (← c.number.ensures) (c.take.ensures x y)))
