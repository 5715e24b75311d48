use Rattle.std.proofs.Common.{◌∙◌}
use Rattle.reg_prov.specs.Wanted.{log_moments, wants}
use Rattle.reg_prov.proofs.Answering.{placed_on}
use Rattle.reg_prov.proofs.calls.batch.Goals as goal

pub returns : goal.returns
returns g c =
    placed_on (wants c.args.machine.now.history c.args.provisioner) (log_moments c.args.machine.now.history c.args.machine.now.clock) c.args.machine.now.clock c.batch_from.result c.in-Some.place c.args.max _
    (c.in-Some.ensures ∙ c.places.ensures c.args.consumer.now) c.batch_from.ensures
