use Rattle.std.proofs.Common.{◌||◌, ◌∙◌, ap}
use Rattle.reg_terms.specs.declared.kinds.Scope.TheVariants.{Sub}
use Rattle.reg_priv.specs.Filling.{is_among, brings}
use Rattle.reg_priv.proofs.Scoped.{on_folder}
use Rattle.reg_priv.proofs.holding.put_here.Goals as goal

pub returns : goal.returns
returns c = λ x. c.in_ok-put_given.ensures x ∙ ap (λ b. is_among x c.args.found.now || b) (c.inherits_of-rows.ensures.same (brings c.args.object.now Sub x) ∙ on_folder c.args.folder (brings c.args.object.now Sub x) c.args.facts.now.inherits)
