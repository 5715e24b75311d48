use Rattle.reg_json.proofs.shown_admin.put_job.Goals as goal

pub returns-clause-ok : goal.returns-clause-ok
returns-clause-ok c = rw (c.as_str.ensures, c.as_str-2.ensures, c.as_str-3.ensures) at c.put_object.ensures.ok
