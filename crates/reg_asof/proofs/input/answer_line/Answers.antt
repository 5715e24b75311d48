use Rattle.std.proofs.Common.{sym, ◌∙◌}
use Rattle.reg_asof.proofs.Telling.{told_skipped, told_one, part_one, wrote_output}
use Rattle.reg_asof.proofs.input.answer_line.Goals as goal

-- nothing was asked
pub returns-then-is_skipped-clause-told : goal.returns-then-is_skipped-clause-told
returns-then-is_skipped-clause-told g c line held = told_skipped c.args.earlier.now line _ (sym (c.is_skipped.ensures line held) ∙ c.if-is_skipped.true)

-- the line was answered, or not all of it
pub returns-clause-told : goal.returns-clause-told
returns-clause-told g c =
    told_one c.args.earlier.now c.args.line.now c.answer-reply.result _ _ c.write_line-written.result (λ line held. sym (c.is_skipped.ensures line held) ∙ c.if-is_skipped.false) c.answer-reply.ensures.due
    c.write_line-written.ensures.written

pub returns-clause-part : goal.returns-clause-part
returns-clause-part g c =
    part_one c.args.earlier.now c.args.line.now c.answer-reply.result _ _ c.write_line-written.result (λ line held. sym (c.is_skipped.ensures line held) ∙ c.if-is_skipped.false) c.answer-reply.ensures.due
    c.answer-reply.ensures.unaccepted c.write_line-written.ensures.written

pub returns-clause-output : goal.returns-clause-output
returns-clause-output g c = wrote_output c.answer-reply.result _ _ _ c.write_line-written.result c.answer-reply.ensures.unaccepted c.write_line-written.ensures.written c.write_line-written.ensures.output
