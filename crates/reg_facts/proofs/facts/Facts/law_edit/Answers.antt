use Rattle.reg_facts.specs.Events.{edit, events_of}
use Rattle.reg_facts.proofs.Lasting.{all_sound, sound_named}
use Rattle.reg_facts.proofs.facts.Facts.law_edit.Goals as goal

pub returns : goal.returns
returns c = λ at by command can. sound_named (edit at by command c.args.self.now) (all_sound (events_of at by command c.args.self.now) c.args.self.now can c.law_sound.ensures)
