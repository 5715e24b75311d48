use Rattle.reg_wire.proofs.Payloads.{payload_short}
use Rattle.reg_wire.proofs.laws.payload_is_short.Goals as goal

pub returns : goal.returns
returns c = payload_short c.law_commands.ensures.apart
