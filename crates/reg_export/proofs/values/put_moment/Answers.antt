use Rattle.reg_json.proofs.Moments.{text_utf8}
use Rattle.reg_export.proofs.values.put_moment.Goals as goal

-- the text of a moment is UTF-8
pub unreachable-requires : goal.unreachable-requires
unreachable-requires c = c.in-Err.ensures.cases.0 (rw c.text-text.ensures.value (text_utf8 c.args.moment))
