use Rattle.std.proofs.Common.{◌≡◌, refl, inl, inr, arith}
use Rattle.reg_session.proofs.Halting.{go_halted}
use Rattle.reg_run.proofs.Providing.{put_disk}
use Rattle.reg_run.specs.declared.status.End.TheVariants as the_end
use Rattle.reg_run.proofs.provision.follow_lines.Goals as goal

-- the end is behind the place
pub returns-then-delivery-clause-followed : goal.returns-then-delivery-clause-followed
returns-then-delivery-clause-followed g c = (c.acknowledge.ensures.asked.0, inl (c.if-delivery.true, c.acknowledge.ensures.asked.1))

-- it is the place
pub returns-clause-followed : goal.returns-clause-followed
returns-clause-followed g c = (
  go_halted g.J.Keeper c.args.service.state.history c.args.service.keeper c.args.service c.into_keeper.result c.stays.ensures c.into_keeper.ensures.keeper c.into_keeper.ensures.fronts c.into_keeper.ensures.leaves,
  inr (omega (arith, c.if-delivery.false, c.requires.ready.onward), (refl, refl), rw (c.deref.ensures.value, c.requires.ready.tells) at c.print_line-end.ensures.put),
)

pub returns-clause-disk : goal.returns-clause-disk
returns-clause-disk g c is = let both : the_end.Done ≡ the_end.Disk = put_disk the_end.Done c.print_line-end.result _ _ _ c.print_line-end.ensures.put is in absurd (cc)
