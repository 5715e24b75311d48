use Rattle.std.proofs.Common.{◌≡◌}
use Rattle.reg_terms.specs.declared.event.Event.TheVariants.{AssignMade}
use Rattle.reg_facts.specs.Events.{happened}
use Rattle.reg_facts.proofs.Happening.{on_ok, on_finished}
use Rattle.reg_facts.proofs.AttributeIds.{next_assign}
use Rattle.reg_facts.proofs.Indexing.{assign_made_indexed}
use Rattle.reg_facts.proofs.facts.Facts.assign_made.Goals as goal

-- the next id is behind the others
pub push_assign-done-requires-clause-ascend : goal.push_assign-done-requires-clause-ascend
push_assign-done-requires-clause-ascend c = rw c.deref_mut.ensures.value (next_assign c.self.inside.tables.value c.args.row c.self.invariant.assigned (rw c.self.view_is c.requires.0))

pub push_assign-done-requires-clause-empty : goal.push_assign-done-requires-clause-empty
push_assign-done-requires-clause-empty c = c.requires.4

pub finished-requires : goal.finished-requires
finished-requires c = on_ok c.push_assign-done.result c.push_assign-done.ensures (λ done.
    let is : c.push_assign-done.new.self ≡ happened (AssignMade c.args.row) c.args.self = rw (c.deref_mut.ensures.value, c.self.view_is) at done in
    rw is (assign_made_indexed c.self.inside.subject_index c.self.inside.children c.args.row c.args.self (rw c.self.view_is at c.self.invariant) c.requires))

pub returns : goal.returns
returns c = on_finished c.push_assign-done.result c.finished.result c.push_assign-done.new.self (happened (AssignMade c.args.row) c.args.self) c.finished.ensures.made c.finished.ensures.facts (rw (c.deref_mut.ensures.value, c.self.view_is) at c.push_assign-done.ensures)
