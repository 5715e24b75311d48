use Rattle.std.proofs.Common.{arith, rules, length-drop, take-append-drop, take, drop}
use Rattle.std.proofs.lemmas.List.{take_all}
use Rattle.reg_session.specs.Lines.{pending_from}
use Rattle.reg_asof.proofs.Telling.{on_err, tells_none, tells_from, part_from}
use Rattle.reg_asof.proofs.input.feed.Goals as goal

-- no byte was taken yet
pub loop-at-init : goal.loop-at-init
loop-at-init g c = record {
  fed = tells_none c.args.earlier.now c.args.line _;
  within = omega arith;
  count = omega arith;
}

-- the bytes of one line more were taken
pub loop-at-preserved : goal.loop-at-preserved
loop-at-preserved g c =
    let rest : _ = rw c.split_at.ensures.back at c.in_ok-line.ensures.within in
    record {
      fed = tells_from c.args.earlier.now c.args.line c.loop-at.line c.in_ok-line.field-0-0 c.args.piece.now c.loop-at.at c.in_ok-line.field-0-1 _ _ _ c.loop-at.invariant.fed (rw c.split_at.ensures.back at c.in_ok-line.ensures.fed);
      within = omega (arith, rest, length-drop c.loop-at.at c.args.piece.now);
      count = search rules;
    }

-- the output failed
pub returns-in_err-line-clause-part : goal.returns-in_err-line-clause-part
returns-in_err-line-clause-part g c =
    on_err _ c.from_residual.result
    (λ before held.
    let fed = c.loop-at.invariant.fed before held in
    let part = rw c.split_at.ensures.back at c.in_err-line.ensures.part in
    rw take-append-drop at (part_from c.args.earlier.now before (take c.loop-at.at c.args.piece.now) (drop c.loop-at.at c.args.piece.now) _ _ _ fed.1 (part (pending_from before (take c.loop-at.at c.args.piece.now)) fed.0)))

-- all bytes were taken
pub returns-clause-fed : goal.returns-clause-fed
returns-clause-fed g c = rw (take_all c.loop-at.at c.args.piece.now (omega (arith, c.loop-at-test.false))) at c.loop-at.invariant.fed
