use Rattle.std.proofs.Common.{◌∙◌, sym}
use Rattle.reg_rules.proofs.Acting.{can_act}
use Rattle.reg_rules.proofs.settling.act.Goals as goal

pub carry-requires : goal.carry-requires
carry-requires g c = can_act (g.C.Carrier.stands c.args.carrier) c.args.rule.now.id c.args.rule.now.form c.args.group c.args.person c.in-Some.action (rw (c.moment.ensures, c.facts.ensures) at (sym c.action_of.ensures ∙ c.in-Some.is))
