use Rattle.std.proofs.Common.{◌≡◌}
use Rattle.reg_terms.specs.declared.event.Event.TheVariants.{GrantBegan}
use Rattle.reg_facts.specs.Events.{happened}
use Rattle.reg_facts.proofs.Indexing.{grant_began_indexed}
use Rattle.reg_facts.proofs.facts.Facts.grant_began.Goals as goal

pub invariant_of-facts : goal.invariant_of-facts
invariant_of-facts c =
    let is : c.begin_grant.new.self ≡ happened (GrantBegan c.args.row) c.args.self = rw (c.deref_mut.ensures.value, c.facts.view_is) at c.begin_grant.ensures in
    rw is (grant_began_indexed c.facts.inside.subject_index c.facts.inside.children c.args.row c.args.self (rw c.facts.view_is at c.facts.invariant) c.requires)
