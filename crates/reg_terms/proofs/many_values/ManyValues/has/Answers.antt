use Rattle.std.proofs.Common.{◌∙◌, ap, option_copied, sym}
use Rattle.reg_terms.proofs.Placing.{none_had, some_had}
use Rattle.reg_terms.proofs.many_values.ManyValues.has.Goals as goal

pub returns-in-Some : goal.returns-in-Some
returns-in-Some c = sym (some_had c.args.value.now c.in-Some.field-0.now c.args.self.now (sym c.first.ensures ∙ ap option_copied c.in-Some.is))

pub returns-in-None : goal.returns-in-None
returns-in-None c = sym (none_had c.args.value.now c.args.self.now (sym c.first.ensures ∙ ap option_copied c.in-None.is))
