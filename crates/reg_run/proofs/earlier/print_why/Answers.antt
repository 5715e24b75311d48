use Rattle.std.proofs.Common.{refl, inr}
use Rattle.reg_run.proofs.AskedThen.{told_same}
use Rattle.reg_run.proofs.earlier.print_why.Goals as goal

-- nothing was printed
pub returns-in-Ended : goal.returns-in-Ended
returns-in-Ended g c = rw c.in-Ended.is (refl, refl)

-- the refusal was
pub returns-in-Unreported-Refused : goal.returns-in-Unreported-Refused
returns-in-Unreported-Refused g c = rw (c.in-Unreported-Refused.is, c.in-Unreported-Refused.field-0-is) (λ r is. told_same c.in-Unreported-Refused.refusal r c.print_refusal.result _ _ is c.print_refusal.ensures)

-- or that there was no memory for it
pub returns-in-Unreported-Memory : goal.returns-in-Unreported-Memory
returns-in-Unreported-Memory g c = rw (c.in-Unreported-Memory.is, c.in-Unreported-Memory.field-0-is) (λ r is. inr c.print_reply.ensures.printed)
