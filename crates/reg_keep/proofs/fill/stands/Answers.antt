use Rattle.std.proofs.Common.{◌≡◌, length, take, rules, ◌∙◌, ap}
use Rattle.reg_keep.proofs.Filled.{fronts, stands_closed, stands_fit, stands_unfit}
use Rattle.reg_keep.proofs.fill.stands.Goals as goal

pub returns-clause-closed : goal.returns-clause-closed
returns-clause-closed g c =
    let held = g.D.Disk.contents c.args.disk.now in
    let r = c.in_ok-count.ensures in
    let nine : length c.read_full.new.buf ≡ 9 = search rules in
    let are = fronts held c.in_ok-count.count c.read_full.new.buf c.split_at.result.0.now nine r.bound (c.split_at.ensures.front ∙ ap (λ l. take c.in_ok-count.count l) c.as_slice.ensures) r.bytes r.end in
    stands_closed c.judge.result held c.split_at.result.0.now c.args.size are c.requires.size c.judge.ensures.closed

pub returns-clause-fit : goal.returns-clause-fit
returns-clause-fit g c =
    let held = g.D.Disk.contents c.args.disk.now in
    let r = c.in_ok-count.ensures in
    let nine : length c.read_full.new.buf ≡ 9 = search rules in
    let are = fronts held c.in_ok-count.count c.read_full.new.buf c.split_at.result.0.now nine r.bound (c.split_at.ensures.front ∙ ap (λ l. take c.in_ok-count.count l) c.as_slice.ensures) r.bytes r.end in
    stands_fit c.judge.result held c.split_at.result.0.now c.args.size are c.requires.size c.judge.ensures.fit

pub returns-clause-exists : goal.returns-clause-exists
returns-clause-exists g c =
    let held = g.D.Disk.contents c.args.disk.now in
    let r = c.in_ok-count.ensures in
    let nine : length c.read_full.new.buf ≡ 9 = search rules in
    let are = fronts held c.in_ok-count.count c.read_full.new.buf c.split_at.result.0.now nine r.bound (c.split_at.ensures.front ∙ ap (λ l. take c.in_ok-count.count l) c.as_slice.ensures) r.bytes r.end in
    λ exists. stands_unfit c.judge.result held c.split_at.result.0.now c.args.size are c.requires.size (c.judge.ensures.exists exists)
