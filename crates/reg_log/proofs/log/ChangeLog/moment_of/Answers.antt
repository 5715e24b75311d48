use Rattle.std.proofs.Common.{◌≡◌, ◌≤◌, ◌<◌, suc, length, arith}
use Rattle.reg_log.specs.Stretches.{begun, moment_begun}
use Rattle.reg_log.proofs.Runs.{moment_none, moment_some, begun_at_most}
use Rattle.reg_log.proofs.log.ChangeLog.moment_of.Goals as goal

pub returns-then-len-before : goal.returns-then-len-before
returns-then-len-before c =
    let count : c.args.seq ≡ suc c.in_ok-before.before = omega (arith, c.in_ok-before.ensures) in
    let past : length c.self.inside.lines.items ≤ c.in_ok-before.before = omega (arith, c.len.ensures, c.self.inside.lines.ok.0, c.if-len-before.true) in
    rw (← c.self.view_is) (moment_none c.args.seq c.in_ok-before.before c.self.inside.stretches.items c.self.inside.lines.items count past)

pub moment_begun-requires : goal.moment_begun-requires
moment_begun-requires c = rw (c.count_begun-count.ensures, c.deref.ensures.value, c.deref-2.ensures.value) (begun_at_most c.in_ok-before.before c.self.inside.stretches.items)

pub returns : goal.returns
returns c =
    let count : c.args.seq ≡ suc c.in_ok-before.before = omega (arith, c.in_ok-before.ensures) in
    let there : c.in_ok-before.before < length c.self.inside.lines.items = omega (arith, c.len.ensures, c.self.inside.lines.ok.0, c.if-len-before.false) in
    let n : c.count_begun-count.result ≡ begun c.in_ok-before.before c.self.inside.stretches.items = rw c.deref.ensures.value at c.count_begun-count.ensures in
    let at : c.moment_begun.result ≡ moment_begun 0 c.count_begun-count.result c.self.inside.stretches.items = rw c.deref-2.ensures.value at c.moment_begun.ensures in
    rw (← c.self.view_is) (moment_some c.args.seq c.in_ok-before.before c.count_begun-count.result (length c.self.inside.lines.items) c.moment_begun.result c.self.inside.stretches.items c.self.inside.lines.items count there c.self.invariant n at)
