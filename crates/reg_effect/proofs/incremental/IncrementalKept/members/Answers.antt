use Rattle.std.proofs.Common.{◌∙◌}
use Rattle.reg_effect.proofs.Lists.{members_is}
use Rattle.reg_effect.proofs.incremental.IncrementalKept.members.Goals as goal

pub returns-clause-value : goal.returns-clause-value
returns-clause-value c = rw (← c.self.view_is) (members_is c.self.inside.live c.args.g c.in_ok-subjects.subjects.items c.in_ok-subjects.ensures.sorted (λ q. c.in_ok-subjects.ensures.each q ∙ c.self.invariant.table.sets c.args.g q))
