use Rattle.std.proofs.Common.{refl}
use Rattle.reg_serve.specs.Answered.{goes}
use Rattle.reg_serve.proofs.Upkeep.{fault_up, fault_whole_up}
use Rattle.reg_serve.proofs.serving.refuse_head.Goals as goal

-- the refusal was sent
pub returns-in-Ok-clause-ended : goal.returns-in-Ok-clause-ended
returns-in-Ok-clause-ended g c moments = record { to = goes c.args.service.state; ends = ((refl, refl, refl), rw c.refusal_of.ensures at c.in-Ok.ensures.sent); leaves = (refl, c.stays.ensures) }

pub returns-in-Ok-clause-keeps_up : goal.returns-in-Ok-clause-keeps_up
returns-in-Ok-clause-keeps_up g c to = fault_whole_up g.K.Keeper c.args.service.keeper c.args.service.keeper c.args.service.state.history _ _ c.refusal_of.result c.in-Ok.ensures.sent c.in-Ok.ensures.marks

-- or a front of it
pub returns-in-Err-clause-ended : goal.returns-in-Err-clause-ended
returns-in-Err-clause-ended g c moments = rw c.in-Err.ensures.why (record { to = goes c.args.service.state; ends = ((refl, refl, refl), rw c.refusal_of.ensures at c.in-Err.ensures.front); leaves = (refl, c.stays.ensures) })

pub returns-in-Err-clause-keeps_up : goal.returns-in-Err-clause-keeps_up
returns-in-Err-clause-keeps_up g c to = fault_up g.K.Keeper c.args.service.keeper c.args.service.keeper c.args.service.state.history _ _ c.refusal_of.result c.in-Err.ensures.front c.in-Err.ensures.marks
