use Rattle.std.proofs.Common.{◌∙◌}
use Rattle.reg_run.proofs.Asking.{left_keeper, told_or_none, question_asks}
use Rattle.reg_run.proofs.Ending.{told_turn}
use Rattle.reg_run.proofs.perform.ask.Goals as goal

-- the query was answered
pub returns-clause-asked : goal.returns-clause-asked
returns-clause-asked g c =
    let same = c.turn-reply.ensures.same _ c.asked_by-reading.ensures.reads (question_asks c.args.question.now) in
    record {
      at = c.now-at.result;
      moment = c.now-at.ensures.moment;
      told = told_turn c.args.service.state c.now-at.result _ c.turn-reply.result.0 c.print_reply-end.result _ _ (question_asks c.args.question.now)
          (told_or_none c.args.service.state c.now-at.result _ c.args.service.keeper c.turn-reply.result.0 c.turn-reply.result.1 (c.turn-reply.ensures.turn _ c.asked_by-reading.ensures.reads) same) c.print_reply-end.ensures.printed;
    }

-- and the keeper given back
pub returns-clause-same : goal.returns-clause-same
returns-clause-same g c =
    c.into_keeper.ensures ∙ left_keeper c.args.service.keeper c.turn-reply.result.1 (c.turn-reply.ensures.same _ c.asked_by-reading.ensures.reads (question_asks c.args.question.now))
