use Rattle.std.proofs.Common.{length}
use Rattle.reg_ops.proofs.table.+command_named.Given as goal

abbrev pub decreases-command_named : goal.decreases-command_named
decreases-command_named l = length l.kinds.now
