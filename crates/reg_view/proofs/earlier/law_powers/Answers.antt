use Rattle.reg_view.proofs.Powers.{powers_by}
use Rattle.reg_view.proofs.earlier.law_powers.Goals as goal

pub returns : goal.returns
returns c = powers_by
