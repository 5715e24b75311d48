use Rattle.std.proofs.Common.{subst}
use Rattle.reg_facts.specs.Assigned.{AreAssigned}
use Rattle.reg_facts.specs.Named.{AreNamed}
use Rattle.reg_facts.specs.Sound.{IsSound}
use Rattle.reg_asof.proofs.joined.law_lawful.Goals as goal

-- each by its law
pub returns : goal.returns
returns g c = record {
  rises = c.law_legal.ensures.ascending;
  sound = subst IsSound c.facts-facts.ensures c.law_sound.ensures;
  named = subst AreNamed c.facts-facts.ensures c.law_names.ensures;
  assigned = subst AreAssigned c.facts-facts.ensures c.law_assigned.ensures;
  known = c.law_past.ensures.known;
  defined = c.law_past.ensures.defined;
  answers = c.law_told.ensures;
}
