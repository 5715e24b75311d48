use Rattle.std.proofs.Common.{◌≡◌, ◌<◌, suc, arith, sym, length}
use Rattle.reg_log.proofs.Runs.{last_begun}
use Rattle.reg_log.proofs.stretches.moment_begun.Goals as goal

-- the last stretch that has begun
pub returns-in-Some : goal.returns-in-Some
returns-in-Some c =
    let count : c.args.count ≡ suc c.in-Some.last = omega (arith, c.in-Some.ensures) in
    let few : c.in-Some.last < length c.args.stretches.now = omega (arith, count, c.requires) in
    rw count (sym (last_begun 0 c.in-Some.last c.args.stretches.now c.index-stretches-last.result few))
