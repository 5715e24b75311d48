use Rattle.std.proofs.Common.{◌∙◌, ap, refl}
use Rattle.reg_facts.specs.Lists.{Lists}
use Rattle.reg_audit.specs.Notes.{notes_of}
use Rattle.reg_current.specs.Live.{live}
use Rattle.reg_current.proofs.Due.{due_some}
use Rattle.reg_machine.proofs.recorded.passed.Goals as goal

pub date_events-requires : goal.date_events-requires
date_events-requires g c = (due_some c.args.current.clock c.args.date c.args.date c.args.current.facts c.requires).later

pub returns-clause-notes : goal.returns-clause-notes
returns-clause-notes g c = c.in-Ok-noted.ensures ∙ (ap (λ (f : Lists). notes_of c.args.date f c.deref.result.now) c.facts.ensures ∙ ap (notes_of c.args.date c.args.current.facts) (c.deref.ensures.value ∙ c.in-Ok.ensures))

pub returns-clause-told : goal.returns-clause-told
returns-clause-told g c = c.in-Ok-passed.ensures.told (live c.args.current.clock c.args.current.facts) (c.new-turned.ensures (live c.args.current.clock c.args.current.facts))

pub returns-clause-touches : goal.returns-clause-touches
returns-clause-touches g c = c.in-Ok-passed.ensures.touches c.args.current.facts (λ o h. refl)
