use Rattle.std.proofs.Common.{arith, rules}
use Rattle.std.proofs.lemmas.List.{length-take-le}
use Rattle.reg_run.proofs.Loading.{table_broke, table_ended, table_full, table_more, table_none}
use Rattle.reg_run.proofs.load.take_table.Goals as goal

-- nothing was taken yet
pub loop-taken-init : goal.loop-taken-init
loop-taken-init g c = record { done = table_none _ _ c.start-kept.ensures; few = omega arith; reads = omega arith }

-- one piece more was
pub loop-taken-preserved : goal.loop-taken-preserved
loop-taken-preserved g c = record {
  done = table_more _ _ _ _ _ _ _ _ c.loop-taken.invariant.done c.in-Ok.ensures.bytes (length-take-le _ _ c.in-Ok.ensures.filled) c.extend-kept.ensures;
  few = omega (arith, c.in-Ok.ensures.within);
  reads = search rules;
}

-- the input has ended
pub returns-then-count-eq0-clause-table : goal.returns-then-count-eq0-clause-table
returns-then-count-eq0-clause-table g c =
    table_ended _ _ _ _ _ _ _ c.loop-taken.invariant.done c.loop-taken.invariant.few c.in-Ok.ensures.bytes c.if-count-eq0.true (c.in-Ok.ensures.end c.if-count-eq0.true)

-- as much was taken as is taken at most
pub returns-clause-table : goal.returns-clause-table
returns-clause-table g c = table_full _ _ _ _ c.loop-taken.invariant.done c.loop-taken.invariant.few c.loop-taken-test.false

-- a read failed
pub returns-in-Err-clause-some : goal.returns-in-Err-clause-some
returns-in-Err-clause-some g c = table_broke _ _ _ _ _ c.loop-taken.invariant.done c.loop-taken.invariant.few c.in-Err.ensures.same
