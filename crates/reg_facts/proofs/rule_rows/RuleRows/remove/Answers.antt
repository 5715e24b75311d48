use Rattle.std.proofs.Common.{◌≡◌, ◌==◌, ◌∙◌, List, sym, ap, filter, map, not, rules}
use Rattle.reg_terms.specs.declared.rows.RuleRow.{RuleRow}
use Rattle.reg_facts.specs.Ruling.{by_form}
use Rattle.reg_facts.proofs.RuleKeys.{less_ascends}
use Rattle.reg_facts.proofs.rule_rows.RuleRows.remove.Goals as goal

-- the list, its index and its forms lose the same
pub invariant_of-self : goal.invariant_of-self
invariant_of-self c =
    let index : c.unlist.new.index ≡ filter (λ (row : RuleRow). not (row.id == c.args.id)) c.self.inside.list.items = search rules in
    let forms : c.unform.new.forms ≡ map by_form (filter (λ (row : RuleRow). not (row.id == c.args.id)) c.self.inside.list.items) = search rules in
    let list : c.remove_by_id.new.rows.items ≡ filter (λ (row : RuleRow). not (row.id == c.args.id)) c.self.inside.list.items = search rules in
    record {
      same = index ∙ sym list;
      said = forms ∙ ap (λ (rows : List RuleRow). map by_form rows) (sym list);
      ascend = rw list (less_ascends (λ (row : RuleRow). not (row.id == c.args.id)) c.self.inside.list.items c.self.invariant.ascend);
    }
