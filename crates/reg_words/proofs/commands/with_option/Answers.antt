use Rattle.std.proofs.Common.{rules, ap, ◌≡◌, ◌∙◌}
use Rattle.std.proofs.lemmas.Result.{IfOk-weaker}
use Rattle.clap.specs.Words.{app_of, rule_of, with_rule}
use Rattle.reg_words.specs.Words.{option_rule}
use Rattle.reg_words.proofs.commands.with_option.Goals as goal

-- the rule is the argument's
pub returns : goal.returns
returns c =
    let rule_is : rule_of c.action-option.result ≡ option_rule c.args.id.now = search rules in
    IfOk-weaker c.arg.result _ _ (λ r h. h.shape (search rules) ∙ ap (λ r. with_rule (app_of c.args.command) r) rule_is) c.arg.ensures
