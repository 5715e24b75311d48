use Rattle.std.proofs.Common.{append_assoc}
use Rattle.reg_report.specs.WhyLines.{row_data}
use Rattle.reg_report.proofs.why_line.put_row.Goals as goal

-- the tokens one behind the other
pub returns-clause-ok : goal.returns-clause-ok
unfolding row_data
returns-clause-ok c =
    let chained = rw (c.in_ok-put_moment-2.ensures.ok, c.in_ok-key-4.ensures.ok, c.in_ok-put_member.ensures.ok, c.in_ok-key-3.ensures.ok, c.in_ok-put_group.ensures.ok, c.in_ok-key-2.ensures.ok, c.in_ok-put_moment.ensures.ok, c.in_ok-key.ensures.ok, c.in_ok-begin_object.ensures.ok) at c.end_object.ensures.ok in
    simp append_assoc at chained
