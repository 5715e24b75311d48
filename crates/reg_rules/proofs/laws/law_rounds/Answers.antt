use Rattle.reg_rules.proofs.Rounds.{facts_last, facts_more}
use Rattle.reg_rules.proofs.laws.law_rounds.Goals as goal

pub returns-clause-last : goal.returns-clause-last
returns-clause-last c at pairs f same = facts_last at pairs f same

pub returns-clause-next : goal.returns-clause-next
returns-clause-next c at pairs f = facts_more at pairs f
