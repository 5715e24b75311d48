use Rattle.reg_prov.specs.Wanted.{log_moments, wants}
use Rattle.reg_prov.proofs.Answering.{told_on}
use Rattle.reg_prov.proofs.Wishes.{never_fallen}
use Rattle.reg_prov.proofs.calls.batch_from.Goals as goal

pub batch_of-requires-clause-rise : goal.batch_of-requires-clause-rise
batch_of-requires-clause-rise g c = rw (c.deref.ensures.value, c.in_ok-moments.ensures, c.log.ensures) (never_fallen (log_moments c.args.machine.now.history c.args.machine.now.clock) c.law_log_moments.ensures.ordered)

pub batch_of-requires-clause-ordered : goal.batch_of-requires-clause-ordered
batch_of-requires-clause-ordered g c = rw c.deref-2.ensures.value c.in_ok-pasts.ensures.ordered

pub returns : goal.returns
returns g c =
    told_on (wants c.args.machine.now.history c.args.provisioner) (log_moments c.args.machine.now.history c.args.machine.now.clock) c.args.machine.now.clock c.batch_of.result c.args.place c.args.max c.in_ok-pasts.pasts.items
    c.law_log_moments.ensures.by_clock c.in_ok-pasts.ensures (rw (c.deref.ensures.value, c.deref-2.ensures.value, c.in_ok-moments.ensures, c.log.ensures, c.clock.ensures) at c.batch_of.ensures)
