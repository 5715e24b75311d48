use Rattle.std.proofs.Common.{length}
use Rattle.reg_json.proofs.ops.+all_stand.Given as goal

abbrev pub decreases-all_stand : goal.decreases-all_stand
decreases-all_stand l = length l.fields.now
