use Rattle.std.proofs.Common.{◌∙◌, ap}
use Rattle.reg_rules.specs.Veto.{first_veto}
use Rattle.reg_rules.proofs.Watching.{forbidding}
use Rattle.reg_rules.proofs.vetoing.veto.Goals as goal

pub loop-rule-init : goal.loop-rule-init
loop-rule-init g c =
    ap (first_veto (g.K.Kept.held c.args.kept.now) c.args.group c.args.subject) (c.into_iter-rule-iterator.ensures.into_iter_gives ∙ c.rules_at-rule-items.ensures)
    ∙ forbidding (g.K.Kept.held c.args.kept.now) c.args.group c.args.subject c.args.facts.now.rules
