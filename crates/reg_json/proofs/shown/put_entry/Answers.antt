use Rattle.reg_json.proofs.shown.put_entry.Goals as goal

pub returns-clause-ok : goal.returns-clause-ok
returns-clause-ok c = rw (c.as_str.ensures, c.word.ensures, c.as_str-2.ensures) at c.put_object.ensures.ok
