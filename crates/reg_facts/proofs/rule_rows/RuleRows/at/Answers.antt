use Rattle.std.proofs.Common.{◌≡◌, ◌∙◌, List, ap, filter, rules}
use Rattle.reg_table.specs.Keyed.{in_order}
use Rattle.reg_terms.specs.Rules.{key_of}
use Rattle.reg_terms.specs.contracts.rules.RuleKeyPartialEq.TheImpl as key_eq
use Rattle.reg_terms.specs.declared.rows.RuleRow.{RuleRow}
use Rattle.reg_facts.specs.Rules.{rules_at}
use Rattle.reg_facts.proofs.RulesInOrder.{rule_order, listed_by_id}
use Rattle.reg_facts.proofs.rule_rows.RuleRows.at.Goals as goal

-- the order of the index is that of the ids
pub returns : goal.returns
returns c =
    let rows : c.rows_of.result ≡ in_order rule_order (filter (λ (row : RuleRow). key_eq.ghosts.eq (key_of row.form) c.args.key) c.self.inside.index) = search rules in
    rows
    ∙ (ap (λ (xs : List RuleRow). in_order rule_order (filter (λ (row : RuleRow). key_eq.ghosts.eq (key_of row.form) c.args.key) xs)) c.self.invariant.same
    ∙ (listed_by_id c.args.key c.self.inside.list.items c.self.invariant.ascend ∙ ap (rules_at c.args.key) c.self.view_is))
