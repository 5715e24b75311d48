use Rattle.std.proofs.Common.{◌<◌, rules}
use Rattle.reg_facts.proofs.AttributeIds.{has_none_past}
use Rattle.reg_facts.proofs.facts.Facts.has_assign.Goals as goal

-- no assignment was made later
pub returns-then-id-made : goal.returns-then-id-made
returns-then-id-made c =
    let past : c.args.self.now.made.assigns < c.args.id = search rules in
    has_none_past c.args.self.now c.args.id c.args.owner.now c.args.attribute c.law_assigned.ensures past
