use Rattle.std.proofs.Common.{◌∙◌, subst}
use Rattle.std.proofs.lemmas.Result.{IfOk-weaker}
use Rattle.reg_facts.specs.Lists.{Lists}
use Rattle.reg_facts.specs.Sound.{AreRowsOnce}
use Rattle.reg_rules.proofs.Acting.{ended_after}
use Rattle.reg_rules.proofs.settling.carry.Goals as goal

pub returns-in-Ended-clause-stands : goal.returns-in-Ended-clause-stands
returns-in-Ended-clause-stands g c =
    let once = subst (λ (x : Lists). AreRowsOnce x.rows) c.facts.ensures c.law_sound.ensures.rows_once in
    IfOk-weaker c.with_end.result _ _ (λ next h. h ∙ ended_after (g.C.Carrier.stands c.args.carrier) c.args.action.now c.in-Ended.rule c.in-Ended.group c.in-Ended.subject c.since-from.result c.in-Ended.until c.in-Ended.is once c.since-from.ensures) c.with_end.ensures.happened
