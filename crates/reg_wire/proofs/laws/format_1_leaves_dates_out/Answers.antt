use Rattle.reg_wire.proofs.OldPayloads.{old_whole}
use Rattle.reg_wire.proofs.laws.format_1_leaves_dates_out.Goals as goal

pub returns : goal.returns
returns c = old_whole
