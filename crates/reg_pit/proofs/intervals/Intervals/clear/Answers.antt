use Rattle.std.proofs.Common.{◌≡◌, take, length, arith}
use Rattle.std.proofs.Math.Seq.{take-length}
use Rattle.reg_pit.proofs.Clearing.{off_more, cleared}
use Rattle.reg_pit.proofs.intervals.Intervals.clear.Goals as goal

pub loop-key-preserved : goal.loop-key-preserved
loop-key-preserved g c = record {
  last = c.in_ok-set.ensures.last;
  off = λ k t. off_more g.K.Ord.cmp g.met.K.Ord.total k c.key-item.result c.deref-key-items.result.now c.loop-key.key-index c.args.at t _ _ _ c.loop-key-test.true c.key-item.is (c.in_ok-set.ensures.set k t) (c.loop-key.invariant.off k t);
}

-- each that was on is off
pub returns-clause-cleared : goal.returns-clause-cleared
returns-clause-cleared g c k t =
    let whole : c.loop-key.key-index ≡ length c.deref-key-items.result.now = omega (arith, c.loop-key-test.false, c.loop-key.auto.key-index-end) in
    let all : take c.loop-key.key-index c.deref-key-items.result.now ≡ c.in_ok-keys.keys.items = rw (whole, take-length) c.deref-key-items.ensures.value in
    cleared g.K.Ord.cmp g.met.K.Ord.total c.args.from c.args.to k c.in_ok-keys.keys.items c.args.at t _ _ (c.in_ok-keys.ensures.each k) (c.requires.last k) (rw all at (c.loop-key.invariant.off k t))
