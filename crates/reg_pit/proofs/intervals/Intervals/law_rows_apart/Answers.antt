use Rattle.reg_pit.proofs.Looking.{are_spans}
use Rattle.reg_pit.proofs.intervals.Intervals.law_rows_apart.Goals as goal

pub returns : goal.returns
returns g c = rw (← c.self.view_is) (are_spans g.K.Ord.cmp c.self.inside.starts.entries c.self.invariant.runs)
