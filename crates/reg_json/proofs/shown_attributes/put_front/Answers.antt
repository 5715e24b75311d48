use Rattle.std.proofs.Common.{append_assoc}
use Rattle.reg_json.proofs.shown_attributes.put_front.Goals as goal

-- the tokens one behind the other
pub returns-clause-ok : goal.returns-clause-ok
returns-clause-ok c =
    let chained = rw (c.in_ok-key-2.ensures.ok, c.in_ok-string.ensures.ok, c.as_str.ensures, c.in_ok-key.ensures.ok, c.from.ensures, c.number.ensures) at c.u64.ensures.ok in
    simp append_assoc at chained
