use Rattle.std.proofs.Common.{refl}
use Rattle.reg_serve.proofs.Turning.{ends_quiet}
use Rattle.reg_serve.proofs.Upkeep.{quiet_up}
use Rattle.reg_serve.proofs.connection.serve_piece.Goals as goal

-- there was no memory for the piece
pub returns-in-Err-clause-ended : goal.returns-in-Err-clause-ended
returns-in-Err-clause-ended g c = ends_quiet g.K.Keeper _ _ _ _ _ c.args.service refl refl refl c.stays.ensures

pub returns-in-Err-clause-keeps_up_to : goal.returns-in-Err-clause-keeps_up_to
returns-in-Err-clause-keeps_up_to g c = (returns-in-Err-clause-ended g c, quiet_up g.K.Keeper c.args.service.keeper c.args.service.keeper c.args.service.state.history _ _ refl refl)

-- its messages were answered
pub returns-in-Ok-clause-served : goal.returns-in-Ok-clause-served
returns-in-Ok-clause-served g c = rw c.in-Ok.ensures.fed at c.serve_turns.ensures.served

pub returns-in-Ok-clause-ended : goal.returns-in-Ok-clause-ended
returns-in-Ok-clause-ended g c = rw c.in-Ok.ensures.fed at c.serve_turns.ensures.ended

pub returns-in-Ok-clause-keeps_up_to : goal.returns-in-Ok-clause-keeps_up_to
returns-in-Ok-clause-keeps_up_to g c = rw c.in-Ok.ensures.fed at c.serve_turns.ensures.keeps_up_to
