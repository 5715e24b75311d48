use Rattle.std.proofs.Common.{◌≤◌, ◌-◌}
use Rattle.reg_sample.specs.Lines.{count}
use Rattle.reg_sample.specs.Played.{IsAt, played}
use Rattle.reg_sample.proofs.playing.play.Given as goal

-- so many lines were asked
abbrev pub invariant-loop-number : goal.invariant-loop-number
invariant-loop-number l = record {
  at : IsAt (played l.seed l.size l.number) l.service.state l.tally;
  refused : l.tally.refused ≤ l.number;
  within : l.number ≤ count l.size;
}

abbrev pub decreases-loop-number : goal.decreases-loop-number
decreases-loop-number l = count l.size - l.number
