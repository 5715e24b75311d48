use Rattle.std.proofs.Common.{◌≡◌, ◌==◌, ◌∙◌, List, sym, ap, filter, map, not, rules}
use Rattle.reg_terms.specs.declared.rows.AttributeRow.{AttributeRow}
use Rattle.reg_facts.specs.Defining.{defined_by}
use Rattle.reg_facts.proofs.RowsById.{less_ascends}
use Rattle.reg_facts.proofs.attribute_rows.AttributeRows.remove.Goals as goal

-- the list and its index lose the same
pub invariant_of-self : goal.invariant_of-self
invariant_of-self c =
    let index : c.unlist.new.index ≡ map defined_by (filter (λ (row : AttributeRow). not (row.id == c.args.id)) c.self.inside.list.items) = search rules in
    let list : c.remove_by_id.new.rows.items ≡ filter (λ (row : AttributeRow). not (row.id == c.args.id)) c.self.inside.list.items = search rules in
    record { same = index ∙ ap (λ (rows : List AttributeRow). map defined_by rows) (sym list); ascend = rw list (less_ascends (λ (row : AttributeRow). row.id) (λ (row : AttributeRow). not (row.id == c.args.id)) c.self.inside.list.items c.self.invariant.ascend) }
