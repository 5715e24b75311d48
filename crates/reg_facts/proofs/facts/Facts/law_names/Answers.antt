use Rattle.reg_facts.proofs.Lasting.{sound_named}
use Rattle.reg_facts.proofs.facts.Facts.law_names.Goals as goal

pub returns : goal.returns
returns c = sound_named c.args.self.now c.law_sound.ensures
