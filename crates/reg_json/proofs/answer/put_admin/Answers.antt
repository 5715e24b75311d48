use Rattle.reg_json.specs.Replies.{answer_data}
use Rattle.reg_json.proofs.Printing.{joined}
use Rattle.reg_json.proofs.answer.put_admin.Goals as goal

-- the tokens one behind the other
pub returns-clause-ok : goal.returns-clause-ok
unfolding answer_data
returns-clause-ok c =
    let chained = rw (c.in_ok-put_rules.ensures.ok, c.list-4.ensures, c.in_ok-put_ok.ensures.ok, c.in_ok-put_jobs.ensures.ok, c.list-3.ensures, c.in_ok-put_gones.ensures.ok, c.list-2.ensures, c.in_ok-put_consumers.ensures.ok, c.list.ensures, c.in_ok-begin_object.ensures.ok) at c.end_object.ensures.ok in
    rw joined at chained
