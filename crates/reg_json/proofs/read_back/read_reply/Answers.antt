use Rattle.reg_json.proofs.Back.{exact_found, exact_none}
use Rattle.reg_json.proofs.read_back.read_reply.Goals as goal

pub returns-in-Ok-clause-exact : goal.returns-in-Ok-clause-exact
returns-in-Ok-clause-exact c = exact_found c.args.bytes.now c.in-Ok.reply c.with_text.result c.in-Ok.ensures c.with_text.ensures.exact

pub returns-in-Err-Unlike-clause-exact : goal.returns-in-Err-Unlike-clause-exact
returns-in-Err-Unlike-clause-exact c = exact_none c.args.bytes.now (rw c.in-Err-Unlike.field-0-is at c.in-Err-Unlike.ensures)
