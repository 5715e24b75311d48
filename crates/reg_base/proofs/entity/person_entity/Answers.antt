use Rattle.std.proofs.Common.{◌∙◌, sym}
use Rattle.reg_base.proofs.Persons.{person_utf8}
use Rattle.reg_base.proofs.entity.person_entity.Goals as goal

pub returns-in-None : goal.returns-in-None
returns-in-None c =
    let refused = rw c.in-None.is at c.in_ok-text.ensures in
    absurd (refused (person_utf8 c.args.text.now (sym c.is_person.ensures ∙ c.if-not-is_person.false)))
