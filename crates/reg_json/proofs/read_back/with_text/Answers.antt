use Rattle.reg_json.proofs.Takings.{kept_same, kept_exact}
use Rattle.reg_json.proofs.read_back.with_text.Goals as goal

pub returns-in-Ok-clause-same : goal.returns-in-Ok-clause-same
returns-in-Ok-clause-same c = rw c.kept_if.ensures (kept_same c.args.reply c.args.bytes.now c.in-Ok.same c.in-Ok.ensures)

pub returns-in-Ok-clause-exact : goal.returns-in-Ok-clause-exact
returns-in-Ok-clause-exact c = rw c.kept_if.ensures (kept_exact c.args.reply c.args.bytes.now c.in-Ok.same c.in-Ok.ensures)
