use Rattle.std.proofs.Common.{◌≡◌, refl, inl, inr}
use Rattle.reg_terms.specs.declared.reply.Reply.TheVariants as reply
use Rattle.reg_session.proofs.Halting.{go_halted}
use Rattle.reg_run.specs.declared.status.End.TheVariants as the_end
use Rattle.reg_run.proofs.Providing.{printed_disk}
use Rattle.reg_run.proofs.provision.provide_now.Goals as goal

pub hand_over-requires-clause-ready : goal.hand_over-requires-clause-ready
hand_over-requires-clause-ready g c = rw c.machine.ensures at c.in-Ok.ensures.ready

-- the batch is handed over
pub returns-in-Ok-clause-provided : goal.returns-in-Ok-clause-provided
returns-in-Ok-clause-provided g c = (
  c.hand_over.ensures.handed.0,
  inr (c.in-Ok.delivery.place, c.in-Ok.delivery.end, c.in-Ok.delivery.lines.items, rw c.machine.ensures at c.in-Ok.ensures.delivers, c.hand_over.ensures.handed.1),
)

-- it is refused
pub returns-in-Err-Refused-clause-provided : goal.returns-in-Err-Refused-clause-provided
returns-in-Err-Refused-clause-provided g c = (
  go_halted g.J.Keeper c.args.service.state.history c.args.service.keeper c.args.service c.into_keeper.result c.stays.ensures c.into_keeper.ensures.keeper c.into_keeper.ensures.fronts c.into_keeper.ensures.leaves,
  inl ((refl, refl), (reply.Refused c.in-Err-Refused.refusal, inl (c.in-Err-Refused.refusal, rw (c.in-Err-Refused.field-0-is, c.machine.ensures) at c.in-Err-Refused.ensures.delivers, refl), rw c.in-Err-Refused.field-0-is at c.print_withheld-end.ensures)),
)

pub returns-in-Err-Refused-clause-disk : goal.returns-in-Err-Refused-clause-disk
returns-in-Err-Refused-clause-disk g c is = let both : the_end.Refused ≡ the_end.Disk = printed_disk the_end.Refused c.print_withheld-end.result _ _ _ c.print_withheld-end.ensures is in absurd (cc)

-- there was no memory for it
pub returns-in-Err-Memory-clause-provided : goal.returns-in-Err-Memory-clause-provided
returns-in-Err-Memory-clause-provided g c = (
  go_halted g.J.Keeper c.args.service.state.history c.args.service.keeper c.args.service c.into_keeper-in-Err-Memory.result c.stays.ensures c.into_keeper-in-Err-Memory.ensures.keeper c.into_keeper-in-Err-Memory.ensures.fronts c.into_keeper-in-Err-Memory.ensures.leaves,
  inl ((refl, refl), (reply.NoMemory, inr refl, c.print_withheld-end-in-Err-Memory.ensures)),
)

pub returns-in-Err-Memory-clause-disk : goal.returns-in-Err-Memory-clause-disk
returns-in-Err-Memory-clause-disk g c is = let both : the_end.Memory ≡ the_end.Disk = printed_disk the_end.Memory c.print_withheld-end-in-Err-Memory.result _ _ _ c.print_withheld-end-in-Err-Memory.ensures is in absurd (cc)
