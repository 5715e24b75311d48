use Rattle.std.proofs.Common.{◌∙◌, ap}
use Rattle.std.specs.BTreeSet.{insert_key}
use Rattle.reg_effect.specs.Order.{row_cmp}
use Rattle.reg_effect.proofs.LiveLaws.{rows_on_comes, rows_on_waits}
use Rattle.reg_effect.proofs.live.rows_on.Goals.{then-le+in_ok-insert, else-le}
use Rattle.reg_effect.proofs.live.rows_on.Goals as goal

pub loop-row-preserved : goal.loop-row-preserved
loop-row-preserved c = elim c.if-le.branch [
  | then-le+in_ok-insert w ↦ w.on-is ∙ (w.in_ok-insert.ensures.ok ∙ (ap (λ rows. insert_key row_cmp rows (c.row-item.result.group, c.row-item.result.member)) c.loop-row.invariant ∙ rows_on_comes c.args.at c.loop-row.row-index c.args.rows.now c.row-item.result c.loop-row-test.true c.row-item.is w.if-le.ensures))
  | else-le w ↦ w.on-is ∙ (c.loop-row.invariant ∙ rows_on_waits c.args.at c.loop-row.row-index c.args.rows.now c.row-item.result c.loop-row-test.true c.row-item.is w.if-le.ensures)
]
