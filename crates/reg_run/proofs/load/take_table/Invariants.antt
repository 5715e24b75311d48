use Rattle.std.proofs.Common.{◌≤◌, ◌+◌, ◌-◌}
use Rattle.reg_terms.specs.Limits.{max_line}
use Rattle.reg_run.specs.Once.{HasTable}
use Rattle.reg_run.proofs.load.take_table.Given as goal

-- so many bytes were taken
abbrev pub invariant-loop-taken : goal.invariant-loop-taken
invariant-loop-taken g l =
    let left = g.S.Source.left in
    record {
      done : HasTable (left l.fn.input) (left l.input) l.kept l.taken;
      few : l.taken ≤ max_line + 1;
      reads : g.S.Source.read_faults l.fn.input ≤ g.S.Source.read_faults l.input;
    }

abbrev pub decreases-loop-taken : goal.decreases-loop-taken
decreases-loop-taken g l = max_line + 1 - l.taken
