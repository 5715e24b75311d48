use Rattle.reg_current.proofs.current.Current.law_grants_open.Goals as goal

pub returns : goal.returns
returns g c = rw (← c.self.view_is) c.self.invariant.grants_open
