use Rattle.reg_serve.proofs.Answering.{finish_open, finish_closed, finish_cut}
use Rattle.reg_serve.proofs.serving.finish_call.Goals as goal

-- the response wasn't sent whole
pub returns-in-Err-clause-sends : goal.returns-in-Err-clause-sends
returns-in-Err-clause-sends g c = finish_cut (Unit {0}) c.args.asked.now c.args.call.now _ _ _ _ _ c.in-Err.ended c.closes_by-close.ensures c.in-Err.ensures.sends

-- the connection closes
pub returns-then-close-clause-sends : goal.returns-then-close-clause-sends
returns-then-close-clause-sends g c = finish_closed c.args.asked.now c.args.call.now _ _ _ _ _ c.in-Ok.field-0 c.closes_by-close.ensures c.if-close.true c.in-Ok.ensures.sends

-- or it stays open
pub returns-else-close-clause-sends : goal.returns-else-close-clause-sends
returns-else-close-clause-sends g c = finish_open c.args.asked.now c.args.call.now _ _ _ _ _ c.in-Ok.field-0 c.closes_by-close.ensures c.if-close.false c.in-Ok.ensures.sends
