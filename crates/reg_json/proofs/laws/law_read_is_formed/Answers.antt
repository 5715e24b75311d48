use Rattle.reg_json.proofs.ReadForms.{read_formed}
use Rattle.reg_json.proofs.laws.law_read_is_formed.Goals as goal

pub returns : goal.returns
returns c = read_formed c.law_ops.ensures
