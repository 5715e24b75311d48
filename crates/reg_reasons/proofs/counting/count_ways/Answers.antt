use Rattle.std.proofs.Common.{◌≡◌, ◌+◌, ◌∷◌, ◌++◌, [], suc, arith}
use Rattle.std.proofs.lemmas.List.{length_push}
use Rattle.reg_reasons.specs.Ways.{ways}
use Rattle.reg_reasons.specs.Reasons.{is_end}
use Rattle.reg_reasons.specs.Counts.{AreOf}
use Rattle.reg_reasons.proofs.Numbers.{all_at, level_at, level_more, none_from}
use Rattle.reg_reasons.proofs.counting.count_ways.Goals as goal

pub returns-then-are_none : goal.returns-then-are_none
returns-then-are_none g c =
    let E = is_end (g.K.Kept.held c.args.kept.now) c.args.person in
    let rows = c.args.rows.now in
    let s = c.args.person in
    let n = c.loop-n.n in
    let l = c.loop-n.invariant.0 in
    let below : AreOf (ways n rows E s) c.index.result.now = level_at (λ m h. ways m rows E s h) c.loop-n.levels.items n c.index.result.now c.loop-n.invariant.1 (omega (arith, l)) c.index.ensures in
    let of : AreOf (ways (suc n) rows E s) c.in_ok-counts.counts = c.in_ok-counts.ensures (ways n rows E s) below in
    all_at rows E s n c.loop-n.levels.items c.loop-n.invariant.1 l c.loop-n-test.true
    (none_from c.in_ok-counts.counts (ways (suc n) rows E s) of (c.are_none.ensures c.if-are_none.true))

pub loop-n-preserved : goal.loop-n-preserved
loop-n-preserved g c =
    let E = is_end (g.K.Kept.held c.args.kept.now) c.args.person in
    let rows = c.args.rows.now in
    let s = c.args.person in
    let n = c.loop-n.n in
    let l = c.loop-n.invariant.0 in
    let below : AreOf (ways n rows E s) c.index.result.now = level_at (λ m h. ways m rows E s h) c.loop-n.levels.items n c.index.result.now c.loop-n.invariant.1 (omega (arith, l)) c.index.ensures in
    let of : AreOf (ways (suc n) rows E s) c.in_ok-counts.counts = c.in_ok-counts.ensures (ways n rows E s) below in
    let at : n + 1 ≡ suc n = omega arith in
    let next : AreOf (ways (n + 1) rows E s) c.in_ok-counts.counts = rw at of in
    let items : c.push-in-loop-n.new.self.items ≡ c.loop-n.levels.items ++ c.in_ok-counts.counts ∷ [] = c.in_ok-push-2.ensures.items in
    let more = length_push c.loop-n.levels.items c.in_ok-counts.counts in
    rw items (omega (arith, l, more), level_more (λ m h. ways m rows E s h) c.loop-n.levels.items c.in_ok-counts.counts (n + 1) l c.loop-n.invariant.1 next)
