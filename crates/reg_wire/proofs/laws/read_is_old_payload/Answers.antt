use Rattle.reg_wire.proofs.OldPayloads.{one_old_payload}
use Rattle.reg_wire.proofs.laws.read_is_old_payload.Goals as goal

pub returns : goal.returns
returns c = one_old_payload c.law_commands.ensures.made
