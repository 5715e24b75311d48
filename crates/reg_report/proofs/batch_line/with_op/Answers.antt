use Rattle.std.proofs.lemmas.Result.{IfOk-weaker}
use Rattle.reg_report.specs.BatchLines.{op_data}
use Rattle.reg_report.proofs.BatchPrinting.{line_more}
use Rattle.reg_report.proofs.batch_line.with_op.Goals as goal

-- the line stands behind the bytes
pub returns : goal.returns
returns c =
    IfOk-weaker c.ended.result _ _
    (λ more h. line_more c.args.bytes.items more.items (op_data c.args.facts.now.subjects c.args.op.now) (rw (c.in_ok-put_op.ensures.before, c.in_ok-put_op.ensures.ok, c.new-out.ensures.before, c.new-out.ensures.tokens) at h)) c.ended.ensures
