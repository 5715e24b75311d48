use Rattle.reg_serve.proofs.Answering.{answers_follows}
use Rattle.reg_serve.proofs.serving.answer_routed.Goals as goal

-- the reply to what was read, at the clock's next moment
pub returns : goal.returns
returns g c =
    answers_follows g.K.Keeper c.args.service.keeper _ _ _ c.now-moment.result _ _ c.now-moment.ensures.moment c.now-moment.ensures.later (c.turn.ensures.turn _ c.read-reading.ensures.says) (c.turn.ensures.kept _ c.read-reading.ensures.says)
