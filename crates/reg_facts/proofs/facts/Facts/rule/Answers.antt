use Rattle.std.proofs.Common.{◌<◌, rules}
use Rattle.reg_facts.proofs.RulesInOrder.{none_past}
use Rattle.reg_facts.proofs.facts.Facts.rule.Goals as goal

-- no rule was made later
pub returns-then-id-made : goal.returns-then-id-made
returns-then-id-made c =
    let past : c.args.self.now.made.rules < c.args.id = search rules in
    none_past c.args.self.now c.args.id c.law_rules.ensures past
