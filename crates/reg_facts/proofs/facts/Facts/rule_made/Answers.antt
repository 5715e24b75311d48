use Rattle.std.proofs.Common.{◌≡◌}
use Rattle.reg_terms.specs.declared.event.Event.TheVariants.{RuleMade}
use Rattle.reg_facts.specs.Events.{happened}
use Rattle.reg_facts.proofs.Happening.{on_ok, on_finished}
use Rattle.reg_facts.proofs.Indexing.{rule_made_indexed}
use Rattle.reg_facts.proofs.RulesInOrder.{next_ascends}
use Rattle.reg_facts.proofs.facts.Facts.rule_made.Goals as goal

-- the next id is behind the others
pub push_rule-done-requires : goal.push_rule-done-requires
push_rule-done-requires c = rw c.deref_mut.ensures.value (next_ascends c.self.inside.tables.value c.args.row c.self.invariant.ruled (rw c.self.view_is c.requires.0))

pub finished-requires : goal.finished-requires
finished-requires c = on_ok c.push_rule-done.result c.push_rule-done.ensures (λ done.
    let is : c.push_rule-done.new.self ≡ happened (RuleMade c.args.row) c.args.self = rw (c.deref_mut.ensures.value, c.self.view_is) at done in
    rw is (rule_made_indexed c.self.inside.subject_index c.self.inside.children c.args.row c.args.self (rw c.self.view_is at c.self.invariant) c.requires))

pub returns : goal.returns
returns c = on_finished c.push_rule-done.result c.finished.result c.push_rule-done.new.self (happened (RuleMade c.args.row) c.args.self) c.finished.ensures.made c.finished.ensures.facts (rw (c.deref_mut.ensures.value, c.self.view_is) at c.push_rule-done.ensures)
