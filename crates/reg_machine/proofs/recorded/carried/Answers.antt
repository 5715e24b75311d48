use Rattle.std.proofs.Common.{refl}
use Rattle.reg_current.specs.Live.{live}
use Rattle.reg_machine.proofs.recorded.carried.Goals as goal

pub returns-clause-notes : goal.returns-clause-notes
returns-clause-notes g c = rw (c.clock.ensures, c.facts.ensures, c.deref.ensures.value) at c.in-Ok.ensures

pub returns-clause-told : goal.returns-clause-told
returns-clause-told g c = c.in-Ok-carried.ensures.told (live c.args.current.clock c.args.current.facts) (c.new-turned.ensures (live c.args.current.clock c.args.current.facts))

pub returns-clause-touches : goal.returns-clause-touches
returns-clause-touches g c = c.in-Ok-carried.ensures.touches c.args.current.facts (λ o h. refl)
