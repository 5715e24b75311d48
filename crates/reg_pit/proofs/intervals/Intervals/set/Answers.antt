use Rattle.reg_pit.proofs.Turning.{no_later_ended}
use Rattle.reg_pit.proofs.intervals.Intervals.set.Goals as goal

pub invariant_of-self-2 : goal.invariant_of-self-2
invariant_of-self-2 g c = record {
  runs = c.in_ok-end.ensures.ok.kept;
  ended = λ k. no_later_ended c.args.at _ (c.in_ok-end.ensures.ok.last k);
}
