use Rattle.reg_ops.proofs.Makes.{command_apart}
use Rattle.reg_ops.proofs.laws.law_commands.Goals as goal

pub returns-clause-apart : goal.returns-clause-apart
returns-clause-apart c = command_apart
