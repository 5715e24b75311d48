use Rattle.reg_rules.proofs.Gone.{lost_off, step_off}
use Rattle.reg_rules.proofs.laws.law_lost.Goals as goal

pub returns-clause-pairs : goal.returns-clause-pairs
returns-clause-pairs c at pairs g owner s f h k = lost_off at pairs g owner s f h k

pub returns-clause-step : goal.returns-clause-step
returns-clause-step c at before g owner s f h was is = step_off at before g owner s f h was is
