use Rattle.reg_current.proofs.Carrying.{waited}
use Rattle.reg_current.proofs.current.Current.wait.Goals as goal

pub invariant_of-self : goal.invariant_of-self
invariant_of-self g c = waited c.self.inside.moment c.args.to c.self.inside.facts (g.K.Kept.held c.self.inside.sets) c.self.inside.graph c.self.inside.dates c.args.self.now c.self.view_is c.requires.later c.requires.none c.self.invariant
