use Rattle.reg_wire.proofs.OldPayloads.{old_reads_back}
use Rattle.reg_wire.proofs.laws.old_payload_reads_back.Goals as goal

pub returns : goal.returns
returns c = old_reads_back c.law_commands.ensures.apart
