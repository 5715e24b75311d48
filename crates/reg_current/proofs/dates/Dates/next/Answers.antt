use Rattle.std.proofs.Common.{◌∙◌, ap}
use Rattle.reg_current.specs.Coming.{up_to}
use Rattle.reg_current.proofs.FirstDates.{next_due}
use Rattle.reg_current.proofs.dates.Dates.next.Goals as goal

pub returns : goal.returns
returns c clock f finds = c.up_to.ensures ∙ ap (λ o. up_to c.args.to o) c.earliest.ensures ∙ next_due c.args.self.now c.args.to c.first_row.result c.first_grant.result c.first_row.ensures c.first_grant.ensures clock f finds
