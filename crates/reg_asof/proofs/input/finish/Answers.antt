use Rattle.reg_asof.proofs.Telling.{on_err, ok_so, part_all}
use Rattle.reg_asof.proofs.input.finish.Goals as goal

-- the line was answered, and the output flushed
pub returns-clause-told : goal.returns-clause-told
returns-clause-told g c = ok_so _ _ c.flush.result c.flush.ensures.flushed (λ flushed line held. rw c.flush.ensures.same (c.in_ok-answer_line.ensures.told line held))

-- or it was, and the output not flushed
pub returns-clause-part : goal.returns-clause-part
returns-clause-part g c = on_err _ c.flush.result (λ line held. rw c.flush.ensures.same (part_all _ _ _ _ (c.in_ok-answer_line.ensures.told line held)))
