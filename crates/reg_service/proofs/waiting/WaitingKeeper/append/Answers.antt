use Rattle.reg_service.proofs.Held.{short_push}
use Rattle.reg_service.proofs.waiting.WaitingKeeper.append.Goals as goal

pub invariant_of-self : goal.invariant_of-self
invariant_of-self c = rw c.in-Ok.ensures.ok (short_push _ _ c.self.invariant c.requires.size)
