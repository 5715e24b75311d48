use Rattle.reg_effect.proofs.Starting.{starts_table}
use Rattle.reg_effect.proofs.plain.PlainKept.start.Goals as goal

pub invariant_of-result : goal.invariant_of-result
invariant_of-result c = rw (c.new.ensures, c.new-2.ensures) starts_table
