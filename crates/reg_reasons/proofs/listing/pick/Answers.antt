use Rattle.std.proofs.Common.{◌∙◌, sym, arith}
use Rattle.std.proofs.lemmas.Bool.{eqb-true, eqb-false}
use Rattle.reg_reasons.proofs.Picking.{passed_other, passed_row, picked}
use Rattle.reg_reasons.proofs.listing.pick.Goals.{then-eq+else-left-count, else-eq}
use Rattle.reg_reasons.proofs.listing.pick.Goals as goal

pub returns-then-left-count-clause-way : goal.returns-then-left-count-clause-way
returns-then-left-count-clause-way c = λ W of.
    picked W c.args.last c.args.person c.args.rows.now c.args.group c.args.k c.loop-place.place c.loop-place.left c.index-rows-place.result c.loop-place-test.true c.index-rows-place.is (c.loop-place.invariant.1 W of)
    c.count_onward-count.result (eqb-true c.index-rows-place.result.group c.args.group (sym c.eq.ensures ∙ c.if-eq.true)) (c.count_onward-count.ensures W of) c.if-left-count.true c.loop-place.invariant.0

pub loop-place-preserved : goal.loop-place-preserved
loop-place-preserved c =
    let few = c.loop-place.invariant.0 in
    elim c.if-eq.branch [
      | then-eq+else-left-count w ↦
          let is = w.left-is in (
            omega (arith, few, is),
            λ W of. rw is (passed_row W c.args.last c.args.person c.args.rows.now c.args.group c.args.k c.loop-place.place c.loop-place.left c.index-rows-place.result c.loop-place-test.true c.index-rows-place.is (c.loop-place.invariant.1 W of)
                w.count_onward-count.result (eqb-true c.index-rows-place.result.group c.args.group (sym c.eq.ensures ∙ w.if-eq.true)) (w.count_onward-count.ensures W of) w.if-left-count.false (let k = c.requires in omega (arith, few, k))),
          )
      | else-eq w ↦
          let is = w.left-is in (
            omega (arith, few, is),
            λ W of. rw is (passed_other W c.args.last c.args.person c.args.rows.now c.args.group c.args.k c.loop-place.place c.loop-place.left c.index-rows-place.result c.loop-place-test.true c.index-rows-place.is (c.loop-place.invariant.1 W of)
                (eqb-false c.index-rows-place.result.group c.args.group (sym c.eq.ensures ∙ w.if-eq.false))),
          )
    ]
