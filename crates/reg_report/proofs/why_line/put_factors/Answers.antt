use Rattle.std.proofs.Common.{append_assoc}
use Rattle.reg_report.specs.WhyLines.{factors_data}
use Rattle.reg_report.proofs.why_line.put_factors.Goals as goal

-- the tokens one behind the other
pub returns-clause-ok : goal.returns-clause-ok
unfolding factors_data
returns-clause-ok c =
    let chained = rw (c.in_ok-put_group-2.ensures.ok, c.in_ok-key-3.ensures.ok, c.in_ok-put_group.ensures.ok, c.in_ok-key-2.ensures.ok, c.in_ok-string.ensures.ok, c.kind_word.ensures, c.in_ok-key.ensures.ok, c.in_ok-begin_object.ensures.ok) at c.end_object.ensures.ok in
    simp append_assoc at chained
