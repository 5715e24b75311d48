use Rattle.reg_json.proofs.shown.put_span.Goals as goal

pub returns-clause-ok : goal.returns-clause-ok
returns-clause-ok c = rw c.as_str.ensures at c.put_object.ensures.ok
