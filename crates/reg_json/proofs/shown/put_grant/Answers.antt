use Rattle.reg_json.proofs.shown.put_grant.Goals as goal

pub returns-clause-ok : goal.returns-clause-ok
returns-clause-ok c = rw (c.as_str.ensures, c.privilege_name.ensures) at c.put_object.ensures.ok
