use Rattle.std.proofs.Common.{◌∙◌}
use Rattle.reg_log.proofs.Runs.{length_lines}
use Rattle.reg_log.proofs.log.ChangeLog.last.Goals as goal

pub returns : goal.returns
returns c = rw (← c.self.view_is, length_lines) (c.len.ensures ∙ c.self.inside.lines.ok.0)
