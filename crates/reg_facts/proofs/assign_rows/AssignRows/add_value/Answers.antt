use Rattle.reg_terms.specs.Values.{with_value}
use Rattle.reg_facts.proofs.AssignedRows.{changed_keyed, with_value_key}
use Rattle.reg_facts.proofs.assign_rows.AssignRows.add_value.Goals as goal

-- its key stays
pub invariant_of-result : goal.invariant_of-result
invariant_of-result c = rw c.in_ok-rows.ensures (changed_keyed (with_value c.args.id c.args.value) (with_value_key c.args.id c.args.value) c.self.inside.index c.self.inside.rows c.self.invariant)
