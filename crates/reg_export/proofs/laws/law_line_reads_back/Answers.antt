use Rattle.reg_export.proofs.Told.{line_again}
use Rattle.reg_export.proofs.laws.law_line_reads_back.Goals as goal

pub returns : goal.returns
returns c = line_again c.law_commands.ensures.apart
