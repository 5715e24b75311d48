use Rattle.std.proofs.Common.{length}
use Rattle.reg_export.proofs.fields.+law_are_whole.Given as goal

abbrev pub decreases-law_are_whole : goal.decreases-law_are_whole
decreases-law_are_whole l = length l.fields.now
