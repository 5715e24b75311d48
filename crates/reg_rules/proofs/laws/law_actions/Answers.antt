use Rattle.reg_rules.specs.Settling.{settling}
use Rattle.reg_rules.proofs.Carried.{settling_can}
use Rattle.reg_rules.proofs.Happening.{all_done_are}
use Rattle.reg_rules.proofs.laws.law_actions.Goals as goal

pub returns-clause-can : goal.returns-clause-can
returns-clause-can c pairs now = settling_can pairs now

pub returns-clause-events : goal.returns-clause-events
returns-clause-events c at pairs f sound = all_done_are (settling pairs at f) f sound.rows_once
