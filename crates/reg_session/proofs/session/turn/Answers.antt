use Rattle.std.proofs.Common.{Ok, Err}
use Rattle.reg_service.specs.Marked.{numbered_by}
use Rattle.reg_session.proofs.session.turn.Goals as goal

-- a reply tells no number but that of a command of the history
pub returns-in-Asked-clause-numbered : goal.returns-in-Asked-clause-numbered
returns-in-Asked-clause-numbered g c = numbered_by _ _ (Ok c.in-Asked.request) c.request.result.0 c.request.result.1 c.request.ensures.turn c.request.ensures.history

pub returns-in-Refused-clause-numbered : goal.returns-in-Refused-clause-numbered
returns-in-Refused-clause-numbered g c = numbered_by _ _ (Err c.in-Refused.refusal) c.refuse.result.0 c.refuse.result.1 c.refuse.ensures.turn c.refuse.ensures.history
