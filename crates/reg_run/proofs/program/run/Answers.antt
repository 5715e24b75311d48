use Rattle.std.proofs.Common.{◌∙◌, ap}
use Rattle.reg_run.specs.Status.{status_of}
use Rattle.reg_run.proofs.Usage.{is_usage}
use Rattle.reg_run.proofs.program.run.Goals as goal

-- the end tells all
pub returns-clause-ends : goal.returns-clause-ends
returns-clause-ends g c = (c.follow-end.result, c.status_of.ensures, c.follow-end.ensures.did, c.write_note.ensures)

pub returns-clause-usage : goal.returns-clause-usage
returns-clause-usage g c = rw c.status_of.ensures (is_usage g.D.Disk g.E.Disk _ c.follow-end.result _ _ _ _ _ _ c.follow-end.ensures.did)

pub returns-clause-unknown : goal.returns-clause-unknown
returns-clause-unknown g c unknown = c.status_of.ensures ∙ ap status_of (c.follow-end.ensures.unknown unknown)
