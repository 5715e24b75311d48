use Rattle.reg_service.proofs.Once.{agree}
use Rattle.reg_service.proofs.service.Service.law_answers_again.Goals as goal

-- the machine's history is legal
pub returns-clause-once : goal.returns-clause-once
returns-clause-once g c = rw c.machine.ensures at c.law_legal.ensures.keys

-- what is kept under a key stays so
pub returns-clause-agree : goal.returns-clause-agree
returns-clause-agree g c happenings last goes = agree c.args.self.now.state happenings last goes
