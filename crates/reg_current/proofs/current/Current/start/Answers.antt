use Rattle.reg_current.proofs.Starting.{start_beside}
use Rattle.reg_current.proofs.current.Current.start.Goals as goal

pub invariant_of-result : goal.invariant_of-result
invariant_of-result g c = rw (c.start-3.ensures, c.in_ok-facts.ensures, c.in_ok-sets.ensures, c.new.ensures) (start_beside c.new-2.result c.new-2.ensures)
