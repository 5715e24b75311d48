use Rattle.reg_graph.specs.Sets.{holds}
use Rattle.reg_effect.proofs.NamedGroups.{groups_are}
use Rattle.reg_effect.proofs.plain.PlainKept.groups_of.Goals as goal

pub returns-clause-each : goal.returns-clause-each
returns-clause-each c = rw (← c.self.view_is) (groups_are c.self.inside.live c.self.invariant.no_circle c.args.s (λ g. holds g c.args.s c.self.inside.table) _ _ (λ g. c.self.invariant.sets g c.args.s) c.in_ok-groups.ensures c.in_ok-found.ensures.each)
