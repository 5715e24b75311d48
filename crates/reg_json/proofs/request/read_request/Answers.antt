use Rattle.reg_json.proofs.ReadForms.{read_formed}
use Rattle.reg_json.proofs.request.read_request.Goals as goal

pub returns-in-Ok-clause-form : goal.returns-in-Ok-clause-form
returns-in-Ok-clause-form c = read_formed c.law_ops.ensures c.args.line.now c.in-Ok.request c.in-Ok.ensures
