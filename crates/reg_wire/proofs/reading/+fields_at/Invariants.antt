use Rattle.std.proofs.Common.{length}
use Rattle.reg_wire.proofs.reading.+fields_at.Given as goal

abbrev pub decreases-fields_at : goal.decreases-fields_at
decreases-fields_at l = length l.fields.now
