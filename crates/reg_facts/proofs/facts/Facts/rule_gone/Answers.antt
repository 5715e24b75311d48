use Rattle.std.proofs.Common.{◌≡◌}
use Rattle.reg_terms.specs.declared.event.Event.TheVariants.{RuleGone}
use Rattle.reg_facts.specs.Events.{happened}
use Rattle.reg_facts.proofs.Indexing.{rule_gone_indexed}
use Rattle.reg_facts.proofs.facts.Facts.rule_gone.Goals as goal

pub invariant_of-facts : goal.invariant_of-facts
invariant_of-facts c =
    let is : c.remove_rule.new.self ≡ happened (RuleGone c.args.rule) c.args.self = rw (c.deref_mut.ensures.value, c.facts.view_is) at c.remove_rule.ensures in
    rw is (rule_gone_indexed c.facts.inside.subject_index c.facts.inside.children c.args.rule c.args.self (rw c.facts.view_is at c.facts.invariant) c.requires)
