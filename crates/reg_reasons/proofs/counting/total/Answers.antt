use Rattle.std.proofs.Common.{◌≡◌, ◌∙◌, arith, length, subst}
use Rattle.reg_reasons.specs.Ways.{shorter}
use Rattle.reg_reasons.specs.Counts.{capped}
use Rattle.reg_reasons.proofs.Numbers.{level_at, total_more}
use Rattle.reg_reasons.proofs.counting.total.Goals as goal

pub loop-counts-preserved : goal.loop-counts-preserved
loop-counts-preserved c = λ W all.
    total_more (λ n. W n c.args.group) c.loop-counts.counts-index c.of.result c.loop-counts.total c.saturating_add-total.result (c.loop-counts.invariant W all)
    (c.of.ensures ∙ level_at W c.args.levels.now c.loop-counts.counts-index c.counts-item.result all c.loop-counts-test.true c.counts-item.is c.args.group)
    c.saturating_add-total.ensures

pub returns : goal.returns
returns c = λ W all.
    let end : c.loop-counts.counts-index ≡ length c.args.levels.now = omega arith in
    subst (λ i. c.loop-counts.total ≡ capped (length (shorter i (λ n. W n c.args.group)))) end (c.loop-counts.invariant W all)
