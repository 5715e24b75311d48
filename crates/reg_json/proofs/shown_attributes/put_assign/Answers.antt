use Rattle.std.proofs.Common.{append_assoc}
use Rattle.reg_json.proofs.shown_attributes.put_assign.Goals as goal

-- the tokens one behind the other
pub returns-clause-ok : goal.returns-clause-ok
returns-clause-ok c =
    let chained = rw (c.in_ok-put_values.ensures.ok, c.in_ok-key.ensures.ok, c.in_ok-put_front.ensures.ok, c.in_ok-begin_object.ensures.ok) at c.end_object.ensures.ok in
    simp append_assoc at chained
