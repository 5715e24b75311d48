use Rattle.std.proofs.Common.{◌∙◌, ap}
use Rattle.reg_loader.specs.Plan.{is_among}
use Rattle.reg_loader.proofs.Lists.{among_once}
use Rattle.reg_loader.proofs.keys.has.Goals as goal

pub returns-clause-once : goal.returns-clause-once
returns-clause-once c = λ keys same. c.contains.ensures ∙ ap (λ ks. is_among c.args.key ks) same ∙ among_once c.args.key keys
