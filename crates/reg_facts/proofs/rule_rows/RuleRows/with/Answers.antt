use Rattle.std.proofs.Common.{◌∙◌, List, ap, map}
use Rattle.std.specs.List.{list_any}
use Rattle.reg_terms.specs.declared.rows.RuleRow.{RuleRow}
use Rattle.reg_facts.specs.Ruling.{by_form}
use Rattle.reg_facts.proofs.RuleKeys.{is_form_key, is_rule_key, none_formed, none_like}
use Rattle.reg_facts.proofs.rule_rows.RuleRows.with.Goals as goal

-- a later id is new to the forms
pub push-requires : goal.push-requires
push-requires c = record {
  free = rw c.formed.ensures (
      ap (list_any (is_form_key (by_form c.args.row))) c.self.invariant.said
      ∙ (ap (λ (rows : List RuleRow). list_any (is_form_key (by_form c.args.row)) (map by_form rows)) c.self.view_is ∙ none_formed c.args.self c.args.row c.requires));
}

-- and to the index
pub push-requires-2 : goal.push-requires-2
push-requires-2 c = record { free = ap (list_any (is_rule_key c.args.row)) (c.self.invariant.same ∙ c.self.view_is) ∙ none_like c.args.self c.args.row c.requires }
