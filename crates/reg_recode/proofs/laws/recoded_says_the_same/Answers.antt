use Rattle.reg_recode.proofs.Says.{same}
use Rattle.reg_recode.proofs.laws.recoded_says_the_same.Goals as goal

pub returns : goal.returns
returns c = same c.payload_reads_back.ensures c.read_is_old_payload.ensures
