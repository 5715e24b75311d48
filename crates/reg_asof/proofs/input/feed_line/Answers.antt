use Rattle.std.proofs.Common.{arith, ◌++◌, take}
use Rattle.reg_asof.proofs.Telling.{on_err, tells_front, tells_line, part_first}
use Rattle.reg_asof.proofs.input.feed_line.Goals as goal

-- no LF stands in the bytes, so they go on with the line
pub returns-then-end-bytes-clause-fed : goal.returns-then-end-bytes-clause-fed
returns-then-end-bytes-clause-fed g c = tells_front c.args.earlier.now c.args.line c.extend-line.result _ _ c.line_end-end.ensures.before (rw c.split_at.ensures.front at c.extend-line.ensures)

-- the bytes before the LF go on with the line, and the LF ends it
pub returns-clause-fed : goal.returns-clause-fed
returns-clause-fed g c =
    tells_line c.args.earlier.now c.args.line c.extend-line.result c.clear.result c.args.bytes.now c.line_end-end.result _ _ (omega (arith, c.line_end-end.ensures.within)) c.line_end-end.ensures.before
    (c.line_end-end.ensures.there (omega (arith, c.line_end-end.ensures.within))) (rw c.split_at.ensures.front at c.extend-line.ensures) c.in_ok-answer_line.ensures.told c.clear.ensures

-- the output failed
pub returns-in_err-answer_line-clause-part : goal.returns-in_err-answer_line-clause-part
returns-in_err-answer_line-clause-part g c =
    on_err _ c.from_residual.result
    (λ before held.
    let extended = rw c.split_at.ensures.front at c.extend-line.ensures in
    part_first c.args.earlier.now before c.args.bytes.now c.line_end-end.result _ _ (omega (arith, c.line_end-end.ensures.within)) c.line_end-end.ensures.before (c.line_end-end.ensures.there (omega (arith, c.line_end-end.ensures.within)))
    (c.in_err-answer_line.ensures.part (before ++ take c.line_end-end.result c.args.bytes.now) (extended before held)))
