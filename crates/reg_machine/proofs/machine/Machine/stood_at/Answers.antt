use Rattle.std.proofs.Common.{◌∙◌, ap, sym}
use Rattle.reg_machine.specs.Standing.{lives_at}
use Rattle.reg_machine.proofs.machine.Machine.stood_at.Goals as goal

pub returns : goal.returns
returns g c = c.lives_at.ensures ∙ (ap (lives_at c.args.t) c.life.ensures ∙ sym (c.law_past.ensures.stood c.args.object c.args.t c.requires))
