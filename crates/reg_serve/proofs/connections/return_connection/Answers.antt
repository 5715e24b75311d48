use Rattle.reg_serve.proofs.Visiting.{silent_back}
use Rattle.reg_serve.proofs.connections.return_connection.Goals as goal

-- it was given back, or couldn't be and is over
pub returns-in-Silent-clause-back : goal.returns-in-Silent-clause-back
returns-in-Silent-clause-back g c = silent_back c.give_back.result c.args.ended c.args.unfinished.now c.args.accepted.number _ _ _ c.in-Silent.is c.give_back.ensures.back c.give_back.ensures.over
