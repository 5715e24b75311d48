use Rattle.reg_facts.proofs.Noted.{object_made, holder_stands}
use Rattle.reg_facts.proofs.facts.Facts.law_grants.Goals as goal

pub returns-clause-objects : goal.returns-clause-objects
returns-clause-objects c = λ text o is. object_made c.args.self.now text o c.law_sound.ensures is

pub returns-clause-holders : goal.returns-clause-holders
returns-clause-holders c = λ e h is. holder_stands c.args.self.now e h c.law_sound.ensures is
