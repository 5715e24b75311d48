use Rattle.std.proofs.Common.{◌∙◌, ap, sym}
use Rattle.std.specs.BTreeSet.{insert_key}
use Rattle.reg_effect.specs.Order.{composite_cmp}
use Rattle.reg_terms.specs.Rows.{is_composite}
use Rattle.reg_effect.proofs.LiveLaws.{composites_in_step, composites_in_stays}
use Rattle.reg_effect.proofs.live.composites_in.Goals.{then-not-has+in_ok-insert, else-not-has}
use Rattle.reg_effect.proofs.live.composites_in.Goals as goal

pub loop-row-preserved : goal.loop-row-preserved
loop-row-preserved c = elim c.if-not-has.branch [
  | then-not-has+in_ok-insert w ↦ composites_in_step c.loop-row.row-index c.args.rows.now c.row-item.result c.if-not-has.composites c.loop-row-test.true c.row-item.is (w.composites-is ∙ (w.in_ok-insert.ensures.ok ∙ ap (λ cs. insert_key composite_cmp cs c.row-item.result) c.loop-row.invariant))
  | else-not-has w ↦ w.composites-is ∙ (c.loop-row.invariant ∙ composites_in_stays c.loop-row.row-index c.args.rows.now c.row-item.result c.loop-row-test.true c.row-item.is (sym (ap (λ cs. is_composite c.row-item.result.group cs) c.loop-row.invariant) ∙ sym w.if-not-has.ensures))
]
