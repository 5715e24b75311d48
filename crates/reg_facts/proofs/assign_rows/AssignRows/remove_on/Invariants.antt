use Rattle.std.proofs.Common.{◌≡◌, filter, not, length}
use Rattle.reg_terms.specs.Kinds.{same_object}
use Rattle.reg_terms.specs.declared.rows.AssignRow.{AssignRow}
use Rattle.reg_facts.proofs.assign_rows.AssignRows.remove_on.Given as goal

-- the assignments to others are as they were
abbrev pub invariant-loop-id : goal.invariant-loop-id
invariant-loop-id l = filter (λ (row : AssignRow). not (same_object row.owner l.owner)) l.self ≡ filter (λ (row : AssignRow). not (same_object row.owner l.owner)) l.fn.self

abbrev pub decreases-loop-id : goal.decreases-loop-id
decreases-loop-id l = length l.self
