use Rattle.reg_export.proofs.Requests.{part_again}
use Rattle.reg_export.proofs.laws.law_request_reads_back.Goals as goal

pub returns : goal.returns
returns c = part_again c.law_commands.ensures.apart
