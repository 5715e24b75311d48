use Rattle.std.proofs.Common.{◌≡◌, ◌∙◌, List, Some, None, sym, ap, filter, not, rules}
use Rattle.std.specs.Option.{option_copied}
use Rattle.reg_terms.specs.declared.rows.RuleRow.{RuleRow}
use Rattle.reg_facts.specs.Rules.{rule_by}
use Rattle.reg_facts.proofs.RuleKeys.{is_rule_key, taken_by_key, none_taken}
use Rattle.reg_facts.proofs.rule_rows.unlist.Goals as goal

-- the rule of this id goes by its key
pub returns-in-Some : goal.returns-in-Some
returns-in-Some c =
    let less : c.remove.new.self ≡ filter (λ (other : RuleRow). not (is_rule_key c.in-Some.row.now other)) c.args.index.now = search rules in
    let found : rule_by c.args.id c.args.list.now ≡ Some c.in-Some.row.now = sym c.row_by_id.ensures ∙ ap option_copied c.in-Some.is in
    less
    ∙ (ap (λ (rows : List RuleRow). filter (λ (other : RuleRow). not (is_rule_key c.in-Some.row.now other)) rows) c.requires.same
    ∙ taken_by_key c.args.list.now c.in-Some.row.now c.args.id c.requires.ascend found)

-- no rule has this id
pub returns-in_default : goal.returns-in_default
returns-in_default c =
    let none : rule_by c.args.id c.args.list.now ≡ None = sym c.row_by_id.ensures ∙ ap option_copied c.in_default.is in
    c.requires.same ∙ sym (none_taken c.args.list.now c.args.id none)
