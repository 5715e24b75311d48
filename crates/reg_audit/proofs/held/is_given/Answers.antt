use Rattle.std.proofs.Common.{◌∙◌, sym}
use Rattle.reg_audit.proofs.Looking.{given_one, given_none}
use Rattle.reg_audit.proofs.held.is_given.Goals as goal

pub returns-in-Some : goal.returns-in-Some
returns-in-Some c = c.has_inherit.ensures ∙ given_one c.args.object.now c.args.folder c.in-Some.kind c.args.scope c.args.privilege c.args.holder.now c.args.facts.now.inherits c.in-Some.ensures.some

pub returns-in-None : goal.returns-in-None
returns-in-None c = sym (given_none c.args.object.now c.args.folder c.args.scope c.args.privilege c.args.holder.now c.args.facts.now.inherits c.in-None.ensures.none)
