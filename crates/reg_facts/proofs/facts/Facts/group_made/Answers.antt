use Rattle.std.proofs.Common.{◌≡◌}
use Rattle.reg_terms.specs.declared.event.Event.TheVariants.{GroupMade}
use Rattle.reg_facts.specs.Events.{happened}
use Rattle.reg_facts.proofs.Happening.{on_both, on_finished}
use Rattle.reg_facts.proofs.Indexing.{group_made_indexed}
use Rattle.reg_facts.proofs.AttributeIds.{next_group}
use Rattle.reg_facts.proofs.facts.Facts.group_made.Goals as goal

-- the next id is behind the others
pub push_group-requires : goal.push_group-requires
push_group-requires c = rw c.deref_mut.ensures.value (next_group c.self.inside.tables.value c.args.row c.self.invariant.sound (rw c.self.view_is c.requires.0))

-- the maps find what the lists hold, the new object too
pub finished-requires : goal.finished-requires
finished-requires c = on_both c.put-put.result c.push_group.result c.both-done.result c.both-done.ensures c.put-put.ensures c.push_group.ensures (λ put done.
    let is : c.push_group.new.self ≡ happened (GroupMade c.args.row) c.args.self = rw (c.deref_mut.ensures.value, c.self.view_is) at done in
    rw is (group_made_indexed c.self.inside.subject_index c.self.inside.children c.put-put.new.self c.args.row c.args.self
    (rw c.self.view_is at c.self.invariant) c.requires (λ x y. rw (← c.number.ensures, ← c.as_str.ensures) (put x y))))

pub returns : goal.returns
returns c = on_finished c.both-done.result c.finished.result c.push_group.new.self (happened (GroupMade c.args.row) c.args.self) c.finished.ensures.made c.finished.ensures.facts (on_both c.put-put.result c.push_group.result c.both-done.result c.both-done.ensures c.put-put.ensures (rw (c.deref_mut.ensures.value, c.self.view_is) at c.push_group.ensures) (λ put done. done))
