use Rattle.std.proofs.Common.{◌≤◌, ◌+◌, arith}
use Rattle.reg_prov.proofs.Listing.{listed_none, listed_more, listed_skips}
use Rattle.reg_prov.proofs.boundary.boundaries_of.Goals as goal

pub loop-number-init : goal.loop-number-init
loop-number-init c = (c.requires.inside, rw (c.new-boundaries.ensures.items, c.moment_at-before.ensures) (listed_none c.args.moments.now c.args.start c.requires.begins))

pub loop-number-preserved-in-Some : goal.loop-number-preserved-in-Some
loop-number-preserved-in-Some c =
    let within : c.loop-number.number + 1 ≤ c.args.last = omega arith in
    (within, rw c.in_ok-push.ensures.items (listed_more c.args.moments.now c.args.start c.loop-number.number c.loop-number.before c.loop-number.boundaries.items c.loop-number.invariant.1 c.requires.rise c.in-Some.at c.in-Some.ensures))

pub loop-number-preserved : goal.loop-number-preserved
loop-number-preserved c =
    let within : c.loop-number.number + 1 ≤ c.args.last = omega arith in
    (within, listed_skips c.args.moments.now c.args.start c.loop-number.number c.loop-number.before c.loop-number.boundaries.items c.loop-number.invariant.1 c.in_default.ensures)
