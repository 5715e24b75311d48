use Rattle.std.proofs.Common.{drop, ap}
use Rattle.std.proofs.lemmas.List.{drop_all}
use Rattle.reg_rules.specs.Settling.{rule_actions}
use Rattle.reg_rules.proofs.Outcomes.{leads_start, leads_done, rule_on}
use Rattle.reg_rules.proofs.settling.act_all.Goals as goal

pub loop-rule-init : goal.loop-rule-init
loop-rule-init g c = leads_start _ _ _

pub loop-rule-preserved : goal.loop-rule-preserved
loop-rule-preserved g c =
    rule_on c.args.rules.now c.loop-rule.rule-index c.rule-item.result c.args.group c.args.person _ _ _ _ _ _ _ c.loop-rule-test.true c.rule-item.is c.loop-rule.invariant c.in_ok-carrier.ensures

pub returns : goal.returns
returns g c =
    leads_done (rule_actions (g.C.Carrier.stands c.loop-rule.carrier).clock (drop c.loop-rule.rule-index c.args.rules.now) c.args.group c.args.person (g.C.Carrier.stands c.loop-rule.carrier).facts) _ _ _ _ _
    (ap (λ rules. rule_actions (g.C.Carrier.stands c.loop-rule.carrier).clock rules c.args.group c.args.person (g.C.Carrier.stands c.loop-rule.carrier).facts) (drop_all c.loop-rule.rule-index c.args.rules.now c.loop-rule-test.false))
    c.loop-rule.invariant
