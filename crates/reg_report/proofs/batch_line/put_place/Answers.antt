use Rattle.std.proofs.Common.{append_assoc}
use Rattle.reg_report.specs.BatchLines.{place_data}
use Rattle.reg_report.proofs.batch_line.put_place.Goals as goal

-- the tokens one behind the other
pub returns-clause-ok : goal.returns-clause-ok
unfolding place_data
returns-clause-ok c =
    let chained = rw (c.in_ok-u64.ensures.ok, c.in_ok-key-2.ensures.ok, c.in_ok-boolean.ensures.ok, c.in_ok-key.ensures.ok, c.in_ok-begin_object.ensures.ok) at c.end_object.ensures.ok in
    simp append_assoc at chained
