use Rattle.std.proofs.Common.{◌≡◌, ◌≤◌, ◌-◌, ◌*◌, ◌++◌}
use Rattle.std.specs.Prelude.{codes}
use Rattle.reg_sample.specs.Lines.{records}
use Rattle.reg_sample.proofs.loading.table.Given as goal

-- the records up to a number are in the table
abbrev pub invariant-loop-number : goal.invariant-loop-number
invariant-loop-number l = record {
  text : l.text.items ≡ codes "GROUP_NAME,SUBJECT_ID\\n" ++ records l.seed l.size l.first (l.number - l.first);
  later : l.first ≤ l.number;
  within : l.number ≤ 400 * l.size;
}

abbrev pub decreases-loop-number : goal.decreases-loop-number
decreases-loop-number l = 400 * l.size - l.number
