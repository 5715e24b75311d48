use Rattle.std.proofs.Common.{◌<◌, ◌^◌, rules}
use Rattle.reg_run.proofs.Providing.{ack_form}
use Rattle.reg_run.proofs.provision.ack_of.Goals as goal

-- what is asked has its form
pub returns-in-Ok-clause-form : goal.returns-in-Ok-clause-form
returns-in-Ok-clause-form c =
    let small : c.args.seq < 2 ^ 64 = search rules in
    rw c.in-Ok.ensures (ack_form c.args.consumer.now c.args.seq c.requires small)
