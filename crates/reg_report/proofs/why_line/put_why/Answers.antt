use Rattle.reg_report.specs.WhyLines.{why_data}
use Rattle.reg_report.proofs.Printing.{joined}
use Rattle.reg_report.proofs.why_line.put_why.Goals as goal

-- the tokens one behind the other
pub returns-clause-ok : goal.returns-clause-ok
unfolding why_data
returns-clause-ok c =
    let chained = rw (c.in_ok-put_ok.ensures.ok, c.in_ok-boolean.ensures.ok, c.in_ok-key-2.ensures.ok, c.in_ok-put_statements.ensures.ok, c.in_ok-key.ensures.ok, c.in_ok-begin_object.ensures.ok) at c.end_object.ensures.ok in
    rw joined at chained
