use Rattle.std.proofs.Common.{[], refl}
use Rattle.reg_current.specs.Coming.{LosesGrantDates}
use Rattle.reg_current.proofs.ComingGrants.{nothing_lost, next_done, end_done}
use Rattle.reg_current.proofs.redating.drop_rows.Goals as goal

pub loop-row-init : goal.loop-row-init
loop-row-init c = ([], refl, nothing_lost c.args.dates.now)

pub loop-row-preserved : goal.loop-row-preserved
loop-row-preserved c = next_done c.args.dates.now c.loop-row.dates c.drop_grant.new.self c.loop-row.row-iterator c.next.new.self _ c.in-Some.row.now c.loop-row.invariant c.in-Some.ensures.steps c.drop_grant.ensures

pub returns : goal.returns
returns c =
    let all : LosesGrantDates c.args.dates.now c.loop-row.dates c.into_iter-row-iterator.result = end_done c.args.dates.now c.loop-row.dates c.loop-row.row-iterator _ c.loop-row.invariant c.in-None.ensures.steps.0 in
    rw (← c.into_iter-row-iterator.ensures.into_iter_gives) all
