use Rattle.std.proofs.Common.{◌∙◌, arith}
use Rattle.reg_pit.specs.Runs.{spans_of}
use Rattle.reg_pit.proofs.Looking.{le_tells, one_look, no_look}
use Rattle.reg_pit.proofs.intervals.Intervals.at.Goals as goal

pub returns-in-Some-clause-value : goal.returns-in-Some-clause-value
returns-in-Some-clause-value g c = c.le.ensures ∙ (le_tells c.in-Some.start c.args.t ∙ c.in-Some.ensures.some)

-- one was looked at, and there is one
pub returns-in-Some-clause-ticks : goal.returns-in-Some-clause-ticks
returns-in-Some-clause-ticks g c = rw c.in-Some.ensures.one c.in-Some.ensures.tick

pub returns-in-Some-clause-cost : goal.returns-in-Some-clause-cost
returns-in-Some-clause-cost g c = λ s e. one_look (spans_of g.K.Ord.cmp c.args.self.now c.args.key) c.args.t s (omega (arith, c.in-Some.ensures.tick, e)) c.in-Some.ensures.one

-- none was
pub returns-in-None-clause-ticks : goal.returns-in-None-clause-ticks
returns-in-None-clause-ticks g c = rw c.in-None.ensures.zero (omega (arith, c.in-None.ensures.no_tick))

pub returns-in-None-clause-cost : goal.returns-in-None-clause-cost
returns-in-None-clause-cost g c = λ s e. no_look (spans_of g.K.Ord.cmp c.args.self.now c.args.key) s (omega (arith, c.in-None.ensures.no_tick, e))
