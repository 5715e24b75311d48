use Rattle.std.proofs.Common.{length}
use Rattle.reg_ops.proofs.table.+coded.Given as goal

abbrev pub decreases-coded : goal.decreases-coded
decreases-coded l = length l.kinds.now
