use Rattle.reg_facts.proofs.NamedAttributes.{definition_stands, attribute_stands, owner_stands}
use Rattle.reg_facts.proofs.facts.Facts.law_owners.Goals as goal

pub returns-clause-definitions : goal.returns-clause-definitions
returns-clause-definitions c = λ name a is. definition_stands c.args.self.now name a c.law_sound.ensures is

pub returns-clause-attributes : goal.returns-clause-attributes
returns-clause-attributes c = λ name a is. attribute_stands c.args.self.now name a c.law_sound.ensures is

pub returns-clause-owners : goal.returns-clause-owners
returns-clause-owners c = λ text o owners is suits. owner_stands c.args.self.now text o owners c.law_sound.ensures is suits
