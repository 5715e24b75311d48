use Rattle.std.proofs.Common.{length}
use Rattle.reg_json.proofs.ops.+all_forms.Given as goal

abbrev pub decreases-all_forms : goal.decreases-all_forms
decreases-all_forms l = length l.fields.now
