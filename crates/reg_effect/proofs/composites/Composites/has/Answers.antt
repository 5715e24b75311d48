use Rattle.std.proofs.Common.{◌∙◌, ap}
use Rattle.std.specs.Option.{is_some}
use Rattle.reg_effect.proofs.Places.{found_some}
use Rattle.reg_effect.proofs.composites.Composites.has.Goals as goal

pub returns : goal.returns
returns c = c.is_some.ensures ∙ (ap is_some c.of.ensures ∙ found_some c.args.group c.args.self.now)
