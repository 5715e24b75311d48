use Rattle.reg_json.proofs.shown_admin.put_end_lost.Goals as goal

pub returns-clause-ok : goal.returns-clause-ok
returns-clause-ok c = rw (c.as_str.ensures, c.from.ensures, c.from-2.ensures, c.number.ensures, c.as_str-2.ensures) at c.put_object.ensures.ok
