use Rattle.reg_http.proofs.Cutting.{given_start, given_fed, given_turn, given_run}
use Rattle.reg_http.proofs.laws.turns_are_of_all_bytes.Goals as goal

pub returns-clause-begun : goal.returns-clause-begun
returns-clause-begun c = given_start

pub returns-clause-fed : goal.returns-clause-fed
returns-clause-fed c = given_fed

pub returns-clause-given : goal.returns-clause-given
returns-clause-given c = given_turn

pub returns-clause-run : goal.returns-clause-run
returns-clause-run c = given_run
