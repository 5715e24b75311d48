use Rattle.std.proofs.Common.{append_assoc}
use Rattle.reg_report.specs.Lines.{permitted_data}
use Rattle.reg_report.proofs.line.put_permitted.Goals as goal

-- the tokens one behind the other
pub returns-clause-ok : goal.returns-clause-ok
unfolding permitted_data
returns-clause-ok c =
    let chained = rw (c.in_ok-put_strings.ensures.ok, c.in_ok-key.ensures.ok, c.in_ok-put_ok.ensures.ok, c.in_ok-begin_object.ensures.ok) at c.end_object.ensures.ok in
    simp append_assoc at chained
