use Rattle.std.proofs.Common.{◌≡◌, ◌++◌, drop}
use Rattle.reg_pit.specs.Owned.{rows_at}
use Rattle.reg_pit.proofs.assigned_past.rows_at.Given as goal

-- the rows so far, and those of the assignments that are left, are all
abbrev pub invariant-loop-assign : goal.invariant-loop-assign
invariant-loop-assign l = l.rows.items ++ rows_at (drop l.assign-index l.assigns) l.t ≡ rows_at l.assigns l.t
