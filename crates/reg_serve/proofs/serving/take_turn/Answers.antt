use Rattle.std.proofs.Common.{refl}
use Rattle.reg_service.specs.Marked.{keeps_up_none}
use Rattle.reg_serve.specs.KeepingUp.{IsResponse}
use Rattle.reg_serve.proofs.serving.take_turn.Goals as goal

-- there is no message
pub returns-in-NeedMore-clause-keeps_up : goal.returns-in-NeedMore-clause-keeps_up
returns-in-NeedMore-clause-keeps_up g c = keeps_up_none g.K.Keeper IsResponse c.args.service.keeper c.args.service.keeper c.args.service.state.history _ _ refl refl

-- a head isn't taken
pub returns-in-Bad-clause-keeps_up_to : goal.returns-in-Bad-clause-keeps_up_to
returns-in-Bad-clause-keeps_up_to g c = rw c.in-Bad.is (c.refuse_head.ensures.ended _, c.refuse_head.ensures.keeps_up _)

-- a message ended the connection
pub returns-in-Err-clause-keeps_up_to : goal.returns-in-Err-clause-keeps_up_to
returns-in-Err-clause-keeps_up_to g c = rw c.in-Call.is c.in-Err.ensures.keeps_up_to
