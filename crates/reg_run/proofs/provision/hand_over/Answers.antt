use Rattle.std.proofs.Common.{refl, inl, inr}
use Rattle.reg_session.proofs.Halting.{go_halted}
use Rattle.reg_run.specs.World.{out_of}
use Rattle.reg_run.proofs.provision.hand_over.Goals as goal

-- the lines were written and flushed
pub returns-in-Ok-clause-handed : goal.returns-in-Ok-clause-handed
returns-in-Ok-clause-handed g c = (
  c.follow_lines.ensures.followed.0,
  inr (out_of g.K.Sink c.print_lines.new.out, rw c.deref.ensures.value at c.in-Ok.ensures.written, c.in-Ok.ensures.flushed, c.follow_lines.ensures.followed.1),
)

-- the output failed within them
pub returns-in-Err-clause-handed : goal.returns-in-Err-clause-handed
returns-in-Err-clause-handed g c = (
  go_halted g.J.Keeper c.args.service.state.history c.args.service.keeper c.args.service c.into_keeper.result c.stays.ensures c.into_keeper.ensures.keeper c.into_keeper.ensures.fronts c.into_keeper.ensures.leaves,
  inl ((refl, refl), refl, c.in-Err.ensures.failed, rw c.deref.ensures.value at c.in-Err.ensures.front, c.in-Err.ensures.unflushed),
)
