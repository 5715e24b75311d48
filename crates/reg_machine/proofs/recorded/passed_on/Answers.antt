use Rattle.reg_machine.proofs.recorded.passed_on.Goals as goal

-- what is on the heap is what passed the date
pub returns-clause-recorded : goal.returns-clause-recorded
returns-clause-recorded g c = rw (c.in_ok-recorded-2.ensures.ok, ← c.into_inner.ensures) c.in_ok-recorded.ensures.recorded

pub returns-clause-cost : goal.returns-clause-cost
returns-clause-cost g c = rw (← c.into_inner.ensures) c.in_ok-recorded.ensures.cost
