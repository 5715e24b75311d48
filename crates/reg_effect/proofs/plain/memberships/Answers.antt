use Rattle.std.proofs.Common.{◌≡◌, ◌<◌, ◌≤◌, ◌+◌, ◌||◌, ℕ, length, ap, refl, arith}
use Rattle.reg_graph.specs.Sets.{holds}
use Rattle.reg_effect.specs.Member.{in_rows, in_factors}
use Rattle.reg_effect.proofs.Rounds.{next_round, settled, all_rounds}
use Rattle.reg_effect.proofs.plain.memberships.Goals as goal

pub returns-then-same : goal.returns-then-same
returns-then-same c =
    let deep : (y q : ℕ) → holds y q c.in_ok-next.next ≡ (in_factors (λ h. holds h q c.loop-depth.table) c.args.live.now.composites y || in_rows (λ h. holds h q c.loop-depth.table) c.args.live.now.rows y q) =
    rw (c.as_slice.ensures.value, c.as_slice-in-loop-depth.ensures.value, c.in_ok-rows.ensures, c.in_ok-composites.ensures) at c.in_ok-next.ensures in
    let rows = ap length c.in_ok-rows.ensures in
    let composites = ap length c.in_ok-composites.ensures in
    let last : c.loop-depth.depth < length c.args.live.now.rows + length c.args.live.now.composites + 1 = omega (arith, rows, composites) in
    settled c.args.live.now c.loop-depth.depth _ c.loop-depth.table c.in_ok-next.next c.loop-depth.invariant (next_round c.args.live.now c.requires c.loop-depth.depth c.loop-depth.table c.in_ok-next.next c.loop-depth.invariant deep)
    (c.same.ensures c.if-same.true) refl last

pub loop-depth-preserved : goal.loop-depth-preserved
loop-depth-preserved c =
    let deep : (y q : ℕ) → holds y q c.in_ok-next.next ≡ (in_factors (λ h. holds h q c.loop-depth.table) c.args.live.now.composites y || in_rows (λ h. holds h q c.loop-depth.table) c.args.live.now.rows y q) =
    rw (c.as_slice.ensures.value, c.as_slice-in-loop-depth.ensures.value, c.in_ok-rows.ensures, c.in_ok-composites.ensures) at c.in_ok-next.ensures in
    next_round c.args.live.now c.requires c.loop-depth.depth c.loop-depth.table c.in_ok-next.next c.loop-depth.invariant deep

pub returns : goal.returns
returns c =
    let rows = ap length c.in_ok-rows.ensures in
    let composites = ap length c.in_ok-composites.ensures in
    let least : length c.args.live.now.rows + length c.args.live.now.composites + 1 ≤ c.loop-depth.depth = omega (arith, rows, composites) in
    let most : c.loop-depth.depth ≤ length c.args.live.now.rows + length c.args.live.now.composites + 1 = omega (arith, rows, composites) in
    all_rounds c.args.live.now c.loop-depth.depth _ c.loop-depth.table c.loop-depth.invariant refl least most
