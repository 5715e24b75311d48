use Rattle.reg_facts.proofs.NewGrants.{group_suits}
use Rattle.reg_facts.proofs.facts.Facts.law_new_group.Goals as goal

pub returns : goal.returns
returns c = λ at by group display can few room. group_suits at by group display c.args.self.now c.law_held.ensures c.law_grants.ensures.holders c.law_rules.ensures can few room
