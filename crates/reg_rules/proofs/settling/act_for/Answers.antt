use Rattle.std.proofs.Common.{◌≡◌, ◌∙◌, List, ap}
use Rattle.reg_terms.specs.declared.rows.RuleRow.{RuleRow}
use Rattle.reg_terms.specs.declared.rules.RuleKey.TheVariants.{Check}
use Rattle.reg_facts.specs.Lists.{Lists}
use Rattle.reg_facts.specs.Rules.{rules_at}
use Rattle.reg_rules.specs.Live.{Now}
use Rattle.reg_rules.specs.Settling.{rule_actions}
use Rattle.reg_rules.proofs.Watching.{watching}
use Rattle.reg_rules.proofs.settling.act_for.Goals as goal

pub returns : goal.returns
returns g c =
    let now : Now = g.C.Carrier.stands c.args.carrier in
    let found : c.deref.result.now ≡ rules_at (Check c.args.pair.0) now.facts.rules = c.deref.ensures.value ∙ (c.in_ok-rules.ensures ∙ ap (λ (f : Lists). rules_at (Check c.args.pair.0) f.rules) c.facts.ensures) in
    let same : rule_actions now.clock c.deref.result.now c.args.pair.0 c.args.pair.1 now.facts ≡ rule_actions now.clock now.facts.rules c.args.pair.0 c.args.pair.1 now.facts =
    ap (λ (rules : List RuleRow). rule_actions now.clock rules c.args.pair.0 c.args.pair.1 now.facts) found ∙ watching now.clock now.facts.rules c.args.pair.0 c.args.pair.1 now.facts in
    rw (← same) c.act_all.ensures
