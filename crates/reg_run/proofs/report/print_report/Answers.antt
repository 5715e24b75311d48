use Rattle.std.proofs.Common.{inr}
use Rattle.reg_run.proofs.Reporting.{told_bytes, told_refusal}
use Rattle.reg_run.proofs.report.print_report.Goals as goal

-- the bytes
pub returns-in-Ok-Ok : goal.returns-in-Ok-Ok
returns-in-Ok-Ok g c = told_bytes c.args.asked.now c.args.machine.now c.in-Ok-Ok.bytes.items c.print_line.result _ _ (rw c.in-Ok-Ok.field-0-is at c.in-Ok-Ok.ensures) (rw c.deref.ensures.value at c.print_line.ensures.put)

-- the refusal
pub returns-in-Ok-Err : goal.returns-in-Ok-Err
returns-in-Ok-Err g c = told_refusal c.args.asked.now c.args.machine.now c.in-Ok-Err.refusal c.print_refusal.result _ _ (rw c.in-Ok-Err.field-0-is at c.in-Ok-Err.ensures) c.print_refusal.ensures

-- that there was no memory
pub returns-in-Err : goal.returns-in-Err
returns-in-Err g c = inr c.print_reply.ensures.printed
