use Rattle.std.proofs.Common.{◌∷◌, [], ◌∙◌}
use Rattle.reg_access.proofs.Fronts.{begins_some, begins_none}
use Rattle.reg_access.proofs.covering.begins_below.Goals as goal

pub returns-in-Some : goal.returns-in-Some
returns-in-Some c =
    c.starts_with.ensures.value ∙ begins_some c.args.text.now c.args.front.now _ (46 ∷ []) c.in-Some.ensures.cases.0 c.in-Some.ensures.cases.1

pub returns-in-None : goal.returns-in-None
returns-in-None c = begins_none c.args.text.now c.args.front.now (46 ∷ []) c.in-None.ensures.cases
