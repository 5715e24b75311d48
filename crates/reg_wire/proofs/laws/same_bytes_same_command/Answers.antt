use Rattle.reg_wire.proofs.Commands.{same_command}
use Rattle.reg_wire.proofs.laws.same_bytes_same_command.Goals as goal

pub returns : goal.returns
returns c = same_command c.law_commands.ensures.apart
