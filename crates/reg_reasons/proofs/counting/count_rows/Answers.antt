use Rattle.reg_reasons.proofs.Numbers.{counted_more}
use Rattle.reg_reasons.proofs.counting.count_rows.Goals as goal

pub loop-row-preserved : goal.loop-row-preserved
loop-row-preserved c = λ W of.
    counted_more W c.args.last c.args.person c.args.rows.now c.loop-row.row-index c.row-item.result c.loop-row.counts c.add.new.self c.count_onward-more.result
    c.loop-row-test.true c.row-item.is (c.loop-row.invariant W of) (c.count_onward-more.ensures W of) c.in_ok-add.ensures
