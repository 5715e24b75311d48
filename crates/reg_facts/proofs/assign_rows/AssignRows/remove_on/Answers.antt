use Rattle.std.proofs.Common.{◌∙◌, List, sym, ap, filter, not}
use Rattle.reg_terms.specs.Kinds.{same_object}
use Rattle.reg_terms.specs.declared.rows.AssignRow.{AssignRow}
use Rattle.reg_facts.proofs.AssignedRows.{owner_fewer, owner_gone, owner_over}
use Rattle.reg_facts.proofs.assign_rows.AssignRows.remove_on.Goals as goal

-- a row less
pub loop-id-smaller : goal.loop-id-smaller
loop-id-smaller c = rw c.remove.ensures (owner_fewer c.in-Some.id c.args.owner.now c.loop-id.self (rw c.in-Some.is at c.first_on.ensures.first))

-- of the owner
pub loop-id-preserved : goal.loop-id-preserved
loop-id-preserved c =
    ap (λ (rows : List AssignRow). filter (λ (row : AssignRow). not (same_object row.owner c.args.owner.now)) rows) c.remove.ensures
    ∙ (owner_over c.in-Some.id c.args.owner.now c.loop-id.self c.first_on.ensures.ascend (rw c.in-Some.is at c.first_on.ensures.first) ∙ c.loop-id.invariant)

-- the owner has none
pub returns : goal.returns
returns c = sym (owner_gone c.args.owner.now c.loop-id.self (rw c.in_default.is at c.first_on.ensures.first)) ∙ c.loop-id.invariant
