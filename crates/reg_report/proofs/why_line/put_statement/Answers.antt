use Rattle.std.proofs.Common.{append_assoc}
use Rattle.reg_report.specs.WhyLines.{statement_data}
use Rattle.reg_report.proofs.why_line.put_statement.Goals as goal

-- the tokens one behind the other
pub returns-clause-ok : goal.returns-clause-ok
unfolding statement_data
returns-clause-ok c =
    let chained = rw (c.in_ok-put_ways.ensures.ok, c.ways_of.ensures, c.in_ok-key-5.ensures.ok, c.in_ok-u64.ensures.ok, c.number_of.ensures, c.in_ok-key-4.ensures.ok, c.in_ok-boolean.ensures.ok, c.in_ok-key-3.ensures.ok, c.in_ok-put_group.ensures.ok, c.in_ok-key-2.ensures.ok, c.in_ok-put_composite.ensures.ok, c.in_ok-key.ensures.ok, c.in_ok-begin_object.ensures.ok) at c.end_object.ensures.ok in
    simp append_assoc at chained
