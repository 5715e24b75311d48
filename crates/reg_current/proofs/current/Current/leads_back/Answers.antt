use Rattle.reg_current.proofs.Telling.{leads_told}
use Rattle.reg_current.proofs.current.Current.leads_back.Goals as goal

pub returns : goal.returns
returns g c =
    let told : _ = leads_told c.self.inside.moment c.self.inside.facts (g.K.Kept.held c.self.inside.sets) c.self.inside.graph c.self.inside.dates c.args.group c.args.other c.self.invariant in
    rw (← c.self.view_is, ← told) c.reaches.ensures.value
