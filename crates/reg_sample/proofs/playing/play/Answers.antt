use Rattle.std.proofs.Common.{arith}
use Rattle.reg_sample.proofs.Asking.{played_more, played_none}
use Rattle.reg_sample.proofs.playing.play.Goals as goal

-- nothing was asked yet
pub loop-number-init : goal.loop-number-init
loop-number-init c = record { at = played_none c.args.seed c.args.size c.in_ok-service.service.state c.in_ok-service.ensures; refused = omega arith; within = omega arith }

-- a line more was
pub loop-number-preserved : goal.loop-number-preserved
loop-number-preserved c = record {
  at = played_more c.args.seed c.args.size c.loop-number.number _ _ _ _ c.loop-number.invariant.at c.in_ok-service-2.ensures.asked;
  refused = c.in_ok-service-2.ensures.refused;
  within = omega (arith, c.loop-number-test.true, c.count.ensures);
}
