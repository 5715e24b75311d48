use Rattle.reg_export.proofs.Whole.{row_chain}
use Rattle.reg_export.proofs.values.put_texts.Goals as goal

pub returns-clause-ok : goal.returns-clause-ok
returns-clause-ok c =
    row_chain c.args.out.now.tokens c.begin_object.new.self.tokens c.put_text.new.out.tokens c.put_text-2.new.out.tokens c.end_object.new.self.tokens c.args.group.now c.args.person.now
    c.in_ok-begin_object.ensures.ok c.in_ok-put_text.ensures.ok c.in_ok-put_text-2.ensures.ok c.in_ok-end_object.ensures.ok
