use Rattle.reg_terms.specs.Values.{without_value}
use Rattle.reg_facts.proofs.AssignedRows.{changed_keyed, without_value_key}
use Rattle.reg_facts.proofs.assign_rows.AssignRows.remove_value.Goals as goal

-- its key stays
pub invariant_of-self : goal.invariant_of-self
invariant_of-self c = rw c.remove_value.ensures (changed_keyed (without_value c.args.id c.args.value.now) (without_value_key c.args.id c.args.value.now) c.self.inside.index c.self.inside.rows c.self.invariant)
