use Rattle.std.proofs.Common.{◌≡◌, drop}
use Rattle.reg_rules.specs.Outcome.{gathered}
use Rattle.reg_rules.specs.Settling.{round_actions}
use Rattle.reg_rules.proofs.Outcomes.{Leads}
use Rattle.reg_rules.proofs.settling.act_round.Given as goal

abbrev pub invariant-loop-pair : goal.invariant-loop-pair
invariant-loop-pair g l = record {
  rules : (g.C.Carrier.stands l.carrier).facts.rules ≡ (g.C.Carrier.stands l.fn.carrier).facts.rules;
  leads : Leads (round_actions (g.C.Carrier.stands l.carrier).clock (g.C.Carrier.stands l.fn.carrier).facts.rules (drop l.pair-index l.pairs) (g.C.Carrier.stands l.carrier).facts) (round_actions (g.C.Carrier.stands l.fn.carrier).clock (g.C.Carrier.stands l.fn.carrier).facts.rules l.pairs (g.C.Carrier.stands l.fn.carrier).facts)
      (g.C.Carrier.stands l.fn.carrier) (g.C.Carrier.stands l.carrier) (gathered l.fn.actions.items l.fn.turned l.fn.steps) (gathered l.actions.items l.turned l.steps);
}
