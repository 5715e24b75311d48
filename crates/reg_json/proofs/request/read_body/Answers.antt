use Rattle.reg_json.proofs.ReadForms.{body_formed}
use Rattle.reg_json.proofs.request.read_body.Goals as goal

pub returns-in-Ok-clause-form : goal.returns-in-Ok-clause-form
returns-in-Ok-clause-form c = body_formed c.law_ops.ensures c.args.by.now c.args.body.now c.in-Ok.request c.in-Ok.ensures
