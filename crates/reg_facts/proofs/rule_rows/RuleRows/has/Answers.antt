use Rattle.std.proofs.Common.{◌≡◌, ◌∙◌, ap}
use Rattle.std.specs.List.{list_any}
use Rattle.reg_facts.specs.Rules.{has_rule}
use Rattle.reg_facts.specs.Ruling.{says_of}
use Rattle.reg_facts.specs.declared.rule_forms.ByForm.{ByForm}
use Rattle.reg_facts.proofs.RuleKeys.{is_said, said_any}
use Rattle.reg_facts.proofs.rule_rows.RuleRows.has.Goals as goal

pub returns : goal.returns
returns c =
    let found : c.has_rows.result ≡ list_any (λ (rule : ByForm). is_said (says_of c.args.form.now) rule.says) c.self.inside.forms = rw c.says.ensures at c.has_rows.ensures in
    found
    ∙ (ap (list_any (λ (rule : ByForm). is_said (says_of c.args.form.now) rule.says)) c.self.invariant.said
    ∙ (said_any c.args.form.now c.self.inside.list.items ∙ ap (has_rule c.args.form.now) c.self.view_is))
