use Rattle.std.proofs.Common.{◌∙◌, sym}
use Rattle.reg_base.proofs.Printed.{moment_printed}
use Rattle.reg_base.proofs.moment.Moment.parse.Goals as goal

pub returns-clause-printed : goal.returns-clause-printed
returns-clause-printed c = moment_printed c.args.text.now c.full_text.result c.moment_in_full.result (sym c.has_length.ensures ∙ c.if-not-has_length.false) c.full_text.ensures c.moment_in_full.ensures
