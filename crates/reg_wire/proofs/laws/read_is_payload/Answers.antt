use Rattle.reg_wire.proofs.Payloads.{one_payload}
use Rattle.reg_wire.proofs.laws.read_is_payload.Goals as goal

pub returns : goal.returns
returns c = one_payload c.law_commands.ensures.made
