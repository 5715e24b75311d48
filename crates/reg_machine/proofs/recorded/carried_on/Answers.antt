use Rattle.reg_machine.proofs.recorded.carried_on.Goals as goal

-- what is on the heap is what was carried
pub returns-clause-recorded : goal.returns-clause-recorded
returns-clause-recorded g c = rw (c.in_ok-recorded-2.ensures.ok, ← c.into_inner.ensures) c.in_ok-recorded.ensures.recorded
