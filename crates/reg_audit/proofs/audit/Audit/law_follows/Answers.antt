use Rattle.reg_audit.specs.Steps.{last_moment}
use Rattle.reg_audit.proofs.Granting.{next_new}
use Rattle.reg_audit.proofs.audit.Audit.law_follows.Goals as goal

pub returns : goal.returns
returns c steps step h f = record {
  noted = c.law_noted_later.ensures (last_moment steps) step.at f.later h.noted;
  new = next_new steps step c.args.self.now c.args.self.now h f;
}
