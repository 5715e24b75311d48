use Rattle.std.proofs.Common.{◌≡◌}
use Rattle.reg_terms.specs.declared.event.Event.TheVariants.{ValueAdded}
use Rattle.reg_facts.specs.Events.{happened}
use Rattle.reg_facts.proofs.Happening.{on_ok, on_finished}
use Rattle.reg_facts.proofs.Indexing.{value_added_indexed}
use Rattle.reg_facts.proofs.facts.Facts.value_added.Goals as goal

pub push_value-done-requires : goal.push_value-done-requires
push_value-done-requires c = rw (c.deref_mut.ensures.value, c.self.view_is) c.requires.1

pub finished-requires : goal.finished-requires
finished-requires c = on_ok c.push_value-done.result c.push_value-done.ensures (λ done.
    let is : c.push_value-done.new.self ≡ happened (ValueAdded c.args.id c.args.value) c.args.self = rw (c.deref_mut.ensures.value, c.self.view_is) at done in
    rw is (value_added_indexed c.self.inside.subject_index c.self.inside.children c.args.id c.args.value c.args.self (rw c.self.view_is at c.self.invariant) c.requires))

pub returns : goal.returns
returns c = on_finished c.push_value-done.result c.finished.result c.push_value-done.new.self (happened (ValueAdded c.args.id c.args.value) c.args.self) c.finished.ensures.made c.finished.ensures.facts (rw (c.deref_mut.ensures.value, c.self.view_is) at c.push_value-done.ensures)
