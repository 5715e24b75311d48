use Rattle.reg_wire.proofs.Payloads.{reads_back}
use Rattle.reg_wire.proofs.laws.payload_reads_back.Goals as goal

pub returns : goal.returns
returns c = reads_back c.law_commands.ensures.apart
