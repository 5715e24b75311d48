use Rattle.reg_service.proofs.Opens.{opened_served}
use Rattle.reg_service.proofs.service.Service.start.Goals as goal

-- what the records open to is served
pub invariant_of-result : goal.invariant_of-result
invariant_of-result g c = opened_served c.read_is_payload.ensures _ c.args.records _ _ c.in-Ok.ensures.ok c.requires.payloads c.requires.going
