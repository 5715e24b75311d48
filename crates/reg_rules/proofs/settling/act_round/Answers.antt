use Rattle.std.proofs.Common.{◌∙◌, refl}
use Rattle.reg_rules.proofs.Outcomes.{leads_start, pair_on, same_rules}
use Rattle.reg_rules.proofs.settling.act_round.Goals as goal

pub loop-pair-init : goal.loop-pair-init
loop-pair-init g c = record { rules = refl; leads = leads_start _ _ _ }

pub loop-pair-preserved : goal.loop-pair-preserved
loop-pair-preserved g c = record {
  rules = same_rules _ _ _ _ _ c.in_ok-carrier.ensures ∙ c.loop-pair.invariant.rules;
  leads = pair_on (g.C.Carrier.stands c.args.carrier).facts.rules c.args.pairs.now c.loop-pair.pair-index c.pair-item.result _ _ _ _ _ _ _ c.loop-pair-test.true c.pair-item.is c.loop-pair.invariant.leads (rw c.loop-pair.invariant.rules at c.in_ok-carrier.ensures);
}
