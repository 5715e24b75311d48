use Rattle.reg_json.specs.Replies.{answer_data}
use Rattle.reg_json.proofs.Printing.{joined}
use Rattle.reg_json.proofs.answer.put_log.Goals as goal

-- the tokens one behind the other
pub returns-clause-ok : goal.returns-clause-ok
unfolding answer_data
returns-clause-ok c =
    let chained = rw (c.in_ok-put_named_number-2.ensures.ok, c.in_ok-put_ok.ensures.ok, c.in_ok-put_named_number.ensures.ok, c.in_ok-put_entries.ensures.ok, c.list.ensures, c.in_ok-key.ensures.ok, c.in_ok-begin_object.ensures.ok) at c.end_object.ensures.ok in
    rw joined at chained
