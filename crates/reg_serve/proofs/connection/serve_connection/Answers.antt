use Rattle.std.proofs.Common.{refl}
use Rattle.reg_serve.proofs.Turning.{session_none}
use Rattle.reg_serve.proofs.Upkeep.{quiet_up}
use Rattle.reg_serve.proofs.connection.serve_connection.Goals as goal

-- there was no memory for the table of routes
pub returns-in_default-clause-session : goal.returns-in_default-clause-session
returns-in_default-clause-session g c = session_none g.K.Keeper _ _ c.args.service c.turns_are_of_all_bytes.ensures.begun refl c.stays.ensures

pub returns-in_default-clause-keeps_up : goal.returns-in_default-clause-keeps_up
returns-in_default-clause-keeps_up g c = (returns-in_default-clause-session g c, quiet_up g.K.Keeper c.args.service.keeper c.args.service.keeper c.args.service.state.history _ _ refl refl)

-- there was no memory for a reader
pub returns-in_default-new-clause-session : goal.returns-in_default-new-clause-session
returns-in_default-new-clause-session g c = session_none g.K.Keeper _ _ c.args.service c.turns_are_of_all_bytes.ensures.begun refl c.stays.ensures

pub returns-in_default-new-clause-keeps_up : goal.returns-in_default-new-clause-keeps_up
returns-in_default-new-clause-keeps_up g c = (returns-in_default-new-clause-session g c, quiet_up g.K.Keeper c.args.service.keeper c.args.service.keeper c.args.service.state.history _ _ refl refl)

-- it was a session
pub returns-clause-session : goal.returns-clause-session
returns-clause-session g c = c.serve_bytes.ensures.session.0

pub returns-clause-keeps_up : goal.returns-clause-keeps_up
returns-clause-keeps_up g c = (c.serve_bytes.ensures.keeps_up.0.0, c.serve_bytes.ensures.keeps_up.1)
