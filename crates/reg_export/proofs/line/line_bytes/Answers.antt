use Rattle.std.proofs.Common.{◌∙◌}
use Rattle.reg_export.proofs.Whole.{text_of}
use Rattle.reg_export.proofs.line.line_bytes.Goals as goal

-- nothing stood before the line
pub returns-clause-text : goal.returns-clause-text
returns-clause-text c =
    text_of c.args.number c.args.place c.args.made c.args.stamped.now c.write_line.new.out.before c.write_line.new.out.tokens c.into_inner.result.items c.into_inner.ensures.items
    (c.in_ok-write_line.ensures.before ∙ (c.new-out.ensures.before ∙ c.in_ok-with_capacity.ensures.items)) (rw c.new-out.ensures.tokens at c.in_ok-write_line.ensures.ok)
