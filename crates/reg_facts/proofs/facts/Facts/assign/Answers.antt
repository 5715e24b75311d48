use Rattle.std.proofs.Common.{◌<◌, rules}
use Rattle.reg_facts.proofs.AttributeIds.{none_past}
use Rattle.reg_facts.proofs.facts.Facts.assign.Goals as goal

-- no assignment was made later
pub returns-then-id-made : goal.returns-then-id-made
returns-then-id-made c =
    let past : c.args.self.now.made.assigns < c.args.id = search rules in
    none_past c.args.self.now c.args.id c.law_assigned.ensures past
