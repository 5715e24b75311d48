use Rattle.std.proofs.Common.{◌≡◌, ◌∙◌, List, Some, None, sym, ap, filter, map, not}
use Rattle.std.specs.Option.{option_copied}
use Rattle.reg_terms.specs.declared.rows.RuleRow.{RuleRow}
use Rattle.reg_facts.specs.Rules.{rule_by}
use Rattle.reg_facts.specs.Ruling.{by_form}
use Rattle.reg_facts.specs.declared.rule_forms.ByForm.{ByForm}
use Rattle.reg_facts.proofs.RuleKeys.{is_form_key, taken_by_form, none_taken}
use Rattle.reg_facts.proofs.rule_rows.unform.Goals as goal

-- the rule of this id goes by all that it says
pub returns-in-Some : goal.returns-in-Some
returns-in-Some c =
    let less : c.remove.new.self ≡ filter (λ (other : ByForm). not (is_form_key (by_form c.in-Some.row.now) other)) c.args.forms.now = rw c.says.ensures at c.remove.ensures.removed in
    let found : rule_by c.args.id c.args.list.now ≡ Some c.in-Some.row.now = sym c.row_by_id.ensures ∙ ap option_copied c.in-Some.is in
    less
    ∙ (ap (λ (forms : List ByForm). filter (λ (other : ByForm). not (is_form_key (by_form c.in-Some.row.now) other)) forms) c.requires.same
    ∙ taken_by_form c.args.list.now c.in-Some.row.now c.args.id c.requires.ascend found)

-- no rule has this id
pub returns-in_default : goal.returns-in_default
returns-in_default c =
    let none : rule_by c.args.id c.args.list.now ≡ None = sym c.row_by_id.ensures ∙ ap option_copied c.in_default.is in
    c.requires.same ∙ ap (λ (rows : List RuleRow). map by_form rows) (sym (none_taken c.args.list.now c.args.id none))
