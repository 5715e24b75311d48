use Rattle.reg_effect.proofs.Starting.{starts_kept}
use Rattle.reg_effect.proofs.incremental.IncrementalKept.start.Goals as goal

pub invariant_of-result : goal.invariant_of-result
invariant_of-result c = rw (c.new.ensures, c.new-2.ensures, c.new-3.ensures) starts_kept
