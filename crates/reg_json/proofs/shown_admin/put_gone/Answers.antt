use Rattle.reg_json.proofs.shown_admin.put_gone.Goals as goal

pub returns-clause-ok : goal.returns-clause-ok
returns-clause-ok c = rw c.as_str.ensures at c.put_object.ensures.ok
