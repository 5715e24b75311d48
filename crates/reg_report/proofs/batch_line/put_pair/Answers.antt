use Rattle.std.proofs.Common.{append_assoc}
use Rattle.reg_report.specs.BatchLines.{pair_data}
use Rattle.reg_report.proofs.batch_line.put_pair.Goals as goal

-- the tokens one behind the other
pub returns-clause-ok : goal.returns-clause-ok
unfolding pair_data
returns-clause-ok c =
    let chained = rw (c.in_ok-string-2.ensures.ok, c.in_ok-key-3.ensures.ok, c.in_ok-u64.ensures.ok, c.from.ensures, c.number.ensures, c.in_ok-key-2.ensures.ok, c.in_ok-string.ensures.ok, c.in_ok-key.ensures.ok, c.in_ok-begin_object.ensures.ok) at c.end_object.ensures.ok in
    simp append_assoc at chained
