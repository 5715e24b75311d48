use Rattle.std.proofs.Common.{◌∙◌, sym}
use Rattle.reg_facts.proofs.AssignKeys.{first_of, none_of}
use Rattle.reg_facts.proofs.assign_index.AssignIndex.first_on.Goals as goal

pub returns-in_err-key : goal.returns-in_err-key
returns-in_err-key c = rw c.from_residual.ensures (none_of c.args.owner.now c.args.self.now (sym c.on.ensures ∙ c.in_err-key.ensures.steps.0))

pub returns : goal.returns
returns c = first_of c.args.owner.now c.args.self.now c.next.new.self c.in_ok-key.key.now (sym c.on.ensures ∙ c.in_ok-key.ensures.steps)
