use Rattle.std.proofs.Common.{drop}
use Rattle.reg_rules.specs.Outcome.{gathered}
use Rattle.reg_rules.specs.Settling.{rule_actions}
use Rattle.reg_rules.proofs.Outcomes.{Leads}
use Rattle.reg_rules.proofs.settling.act_all.Given as goal

abbrev pub invariant-loop-rule : goal.invariant-loop-rule
invariant-loop-rule g l = Leads (rule_actions (g.C.Carrier.stands l.carrier).clock (drop l.rule-index l.rules) l.group l.person (g.C.Carrier.stands l.carrier).facts) (rule_actions (g.C.Carrier.stands l.fn.carrier).clock l.rules l.group l.person (g.C.Carrier.stands l.fn.carrier).facts)
    (g.C.Carrier.stands l.fn.carrier) (g.C.Carrier.stands l.carrier) (gathered l.fn.actions.items l.fn.turned l.fn.steps) (gathered l.actions.items l.turned l.steps)
