use Rattle.std.proofs.Common.{arith, ◌∙◌}
use Rattle.reg_calls.specs.Asked.{asked_of}
use Rattle.reg_serve.proofs.Answering.{answers_go, answers_stop, finishes_open, finishes_served, finishes_kept, finishes_ended, stop_leaves}
use Rattle.reg_serve.proofs.Upkeep.{finishes_up, finishes_up_to, may_of, stop_up}
use Rattle.reg_serve.proofs.serving.serve_call.Goals as goal

-- the service goes on
pub returns-in-Go-clause-open : goal.returns-in-Go-clause-open
returns-in-Go-clause-open g c = finishes_open _ _ c.in-Go.service c.args.call.now _ c.finish_call.result (rw c.asked_of-asked.ensures at c.finish_call.ensures.sends)

pub returns-in-Go-clause-served : goal.returns-in-Go-clause-served
returns-in-Go-clause-served g c =
    let m = answers_go _ _ _ _ _ _ c.answer-reply.result c.in-Go.service (rw c.asked_of-asked.ensures at c.answer-reply.ensures) c.in-Go.is in
    finishes_served _ _ _ _ _ c.in-Go.service c.args.call.now m.0 _ c.finish_call.result m.1 m.2 (rw (c.asked_of-asked.ensures, c.note-in-Go.ensures.written) at c.finish_call.ensures.sends)

pub returns-in-Go-clause-kept : goal.returns-in-Go-clause-kept
returns-in-Go-clause-kept g c =
    let m = answers_go _ _ _ _ _ _ c.answer-reply.result c.in-Go.service c.answer-reply.ensures c.in-Go.is in
    finishes_kept g.K.Keeper _ _ _ _ c.in-Go.service c.asked_of-asked.result c.args.call.now _ c.finish_call.result m.3 c.finish_call.ensures.sends

pub returns-in-Go-clause-ended : goal.returns-in-Go-clause-ended
returns-in-Go-clause-ended g c =
    let m = answers_go _ _ _ _ _ _ c.answer-reply.result c.in-Go.service (rw c.asked_of-asked.ensures at c.answer-reply.ensures) c.in-Go.is in
    finishes_ended g.K.Keeper c.args.service.keeper _ _ _ _ _ c.in-Go.service c.args.call.now m.0 _ c.finish_call.result m.1 m.2 m.3 (rw (c.asked_of-asked.ensures, c.note-in-Go.ensures.written) at c.finish_call.ensures.sends)

pub returns-in-Go-clause-keeps_up : goal.returns-in-Go-clause-keeps_up
returns-in-Go-clause-keeps_up g c =
    let m = answers_go _ _ _ _ _ _ c.answer-reply.result c.in-Go.service c.answer-reply.ensures c.in-Go.is in
    finishes_up g.K.Keeper c.args.service.keeper c.stamp.result _ _ _ _ c.in-Go.service _ c.args.call.now _ c.finish_call.result (may_of _ _ _ _ _ m.2) (record { past = omega (arith, c.stamp.ensures.moment); leaves = c.stamp.ensures.leaves })
    (c.finish_call.ensures.marks ∙ c.note-in-Go.ensures.marks) (rw c.note-in-Go.ensures.written at c.finish_call.ensures.sends)

pub returns-in-Go-clause-keeps_up_to : goal.returns-in-Go-clause-keeps_up_to
returns-in-Go-clause-keeps_up_to g c =
    let m = answers_go _ _ _ _ _ _ c.answer-reply.result c.in-Go.service c.answer-reply.ensures c.in-Go.is in
    finishes_up_to g.K.Keeper c.args.service.keeper c.stamp.result _ _ _ _ _ _ c.in-Go.service _ c.args.call.now _ _ c.finish_call.result (may_of _ _ _ _ _ m.2) (record { past = omega (arith, c.stamp.ensures.moment); leaves = c.stamp.ensures.leaves })
    (c.finish_call.ensures.marks ∙ c.note-in-Go.ensures.marks) (rw c.note-in-Go.ensures.written at c.finish_call.ensures.sends) (returns-in-Go-clause-ended g c)

-- it stopped
pub returns-in-Stop-clause-keeps_up_to : goal.returns-in-Stop-clause-keeps_up_to
returns-in-Stop-clause-keeps_up_to g c =
    let m = answers_stop _ _ _ _ _ _ c.answer-reply.result c.in-Stop.cause c.in-Stop.keeper (rw c.asked_of-asked.ensures at c.answer-reply.ensures) c.in-Stop.is in
    let stop = c.stop_call.ensures in
    let l = stop_leaves g.K.Keeper c.args.service.keeper c.in-Stop.keeper _ _ _ _ _ c.args.call.now m.1.0 c.in-Stop.cause m.1.2.0 c.stop_call.result m.1.1 (λ is. stop.sent is (asked_of c.args.call.now)) (stop.front (asked_of c.args.call.now)) stop.ends m.1.2.1 m.1.2.2 in
    (l.0, stop_up g.K.Keeper c.args.service.keeper c.in-Stop.keeper _ _ (asked_of c.args.call.now) c.in-Stop.cause m.1.2.2.0 l.0.to l.1 (stop.front (asked_of c.args.call.now)) stop.marks)

pub returns-in-Stop-clause-ended : goal.returns-in-Stop-clause-ended
returns-in-Stop-clause-ended g c = (returns-in-Stop-clause-keeps_up_to g c).0
