use Rattle.std.proofs.Common.{◌≡◌, ◌∙◌, None, Some, sym}
use Rattle.reg_facts.specs.Attributes.{assign_row}
use Rattle.reg_facts.proofs.AssignedRows.{less_keyed, same_keyed}
use Rattle.reg_facts.proofs.assign_rows.AssignRows.remove.Goals as goal

-- its key goes with it
pub invariant_of-self : goal.invariant_of-self
invariant_of-self c =
    let found : assign_row c.args.id c.self.inside.rows ≡ Some c.in-Some.row = sym c.take.ensures.taken ∙ c.in-Some.is in
    rw c.take.ensures.left (less_keyed c.args.id c.in-Some.row c.self.inside.index c.self.inside.rows c.remove.new.self c.self.invariant found (rw c.key_of.ensures at c.remove.ensures))

-- none has this id
pub invariant_of-self-in_default : goal.invariant_of-self-in_default
invariant_of-self-in_default c =
    let none : assign_row c.args.id c.self.inside.rows ≡ None = sym c.take.ensures.taken ∙ c.in_default.is in
    rw c.take.ensures.left (same_keyed c.args.id c.self.inside.index c.self.inside.rows c.self.invariant none)
