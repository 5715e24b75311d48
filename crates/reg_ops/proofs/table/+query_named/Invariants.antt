use Rattle.std.proofs.Common.{length}
use Rattle.reg_ops.proofs.table.+query_named.Given as goal

abbrev pub decreases-query_named : goal.decreases-query_named
decreases-query_named l = length l.kinds.now
