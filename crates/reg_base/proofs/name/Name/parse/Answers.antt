use Rattle.std.proofs.Common.{◌∙◌, sym}
use Rattle.reg_base.proofs.Persons.{name_utf8}
use Rattle.reg_base.proofs.name.Name.parse.Goals as goal

pub returns-in-Err : goal.returns-in-Err
returns-in-Err c = absurd (c.in-Err.ensures.cases.0 (name_utf8 c.args.text.now (sym c.is_name.ensures ∙ c.if-not-is_name.false)))
