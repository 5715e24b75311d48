use Rattle.std.proofs.Common.{◌∙◌}
use Rattle.reg_effect.proofs.Deep.{member_level}
use Rattle.reg_effect.proofs.incremental.IncrementalKept.is_member.Goals as goal

pub returns-clause-by_level : goal.returns-clause-by_level
returns-clause-by_level c = c.has.ensures ∙ (c.self.invariant.table.sets c.args.g c.args.s ∙ rw (← c.self.view_is) (member_level c.self.inside.live c.self.invariant.table.no_circle c.args.g c.args.s))
