use Rattle.std.proofs.Common.{◌≡◌, filter, not, length}
use Rattle.reg_table.specs.Keyed.{is_of}
use Rattle.reg_table.proofs.linked_table.LinkedTable.remove_group.Given as goal

-- the rows of other groups are as they were
abbrev pub invariant-loop-place : goal.invariant-loop-place
invariant-loop-place g l = filter (λ row. not (is_of g.R.Group.PartialEq.eq g.R.Row.group_of l.group row)) l.self ≡ filter (λ row. not (is_of g.R.Group.PartialEq.eq g.R.Row.group_of l.group row)) l.fn.self

abbrev pub decreases-loop-place : goal.decreases-loop-place
decreases-loop-place g l = length l.self
