use Rattle.std.proofs.Common.{◌∙◌, sym}
use Rattle.reg_current.proofs.ComingGrants.{grant_lost}
use Rattle.reg_current.proofs.RowFound.{grant_dropped}
use Rattle.reg_current.proofs.redating.drop_grant.Goals as goal

pub returns-in-Some : goal.returns-in-Some
returns-in-Some c = grant_lost c.args.dates.now c.drop_grant.new.self c.args.row.now c.in-Some.stands c.drop_grant.ensures c.args.clock c.args.facts.now.rows c.args.facts.now.grants c.requires.found c.law_held.ensures.grants_once (sym c.grant.ensures ∙ c.in-Some.is)

-- a grant that stands is found
pub returns-in_default : goal.returns-in_default
returns-in_default c = grant_dropped _ c.args.clock c.args.row.now c.args.facts.now.rows c.args.facts.now.grants (sym c.grant.ensures ∙ c.in_default.is) c.requires.there
