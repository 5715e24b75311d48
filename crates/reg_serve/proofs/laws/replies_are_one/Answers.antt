use Rattle.reg_serve.proofs.Exactly.{answered_exact}
use Rattle.reg_serve.proofs.laws.replies_are_one.Goals as goal

pub returns : goal.returns
returns c = answered_exact
