use Rattle.std.proofs.Common.{◌∙◌, sym}
use Rattle.reg_current.proofs.RowFound.{row_dropped}
use Rattle.reg_current.proofs.redating.drop_member.Goals as goal

pub returns-in-Some : goal.returns-in-Some
returns-in-Some c = c.drop_row.ensures c.args.clock c.args.group c.args.member.now c.args.facts.now.rows c.args.facts.now.grants c.requires.found c.law_sound.ensures.rows_once (sym c.row.ensures ∙ c.in-Some.is)

-- a row that stands is found
pub returns-in_default : goal.returns-in_default
returns-in_default c = row_dropped _ c.args.clock c.args.group c.args.member.now c.args.facts.now.rows c.args.facts.now.grants (sym c.row.ensures ∙ c.in_default.is) c.requires.there
