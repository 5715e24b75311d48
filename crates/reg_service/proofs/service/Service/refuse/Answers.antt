use Rattle.std.proofs.Common.{ap, sym, inl, inr}
use Rattle.reg_machine.specs.History.{State}
use Rattle.reg_terms.specs.declared.reply.Reply.TheVariants as reply
use Rattle.reg_service.specs.Turn.{last_reply}
use Rattle.reg_service.proofs.service.Service.refuse.Goals as goal

-- the clock alone moved, and the refusal is the reply
pub returns-in-Go-clause-turn : goal.returns-in-Go-clause-turn
returns-in-Go-clause-turn g c = inl (ap (λ (s : State). (reply.Refused c.args.refusal, s)) (rw c.in-Go.is at c.at.ensures.moved))

pub returns-in-Go-clause-history : goal.returns-in-Go-clause-history
returns-in-Go-clause-history g c =
    let moved = rw c.in-Go.is at c.at.ensures.moved in
    (ap (λ (s : State). s.history) moved, inr (ap (λ (s : State). s.clock) moved))

pub returns-in-Go-clause-kept : goal.returns-in-Go-clause-kept
returns-in-Go-clause-kept g c = rw c.in-Go.is at c.at.ensures.kept

pub returns-in-Go-clause-same : goal.returns-in-Go-clause-same
returns-in-Go-clause-same g c = rw c.in-Go.is at c.at.ensures.same

pub returns-in-Go-clause-still : goal.returns-in-Go-clause-still
returns-in-Go-clause-still g c = rw c.in-Go.is at c.at.ensures.still

-- or there was no memory to
pub returns-in-Stop-clause-turn : goal.returns-in-Stop-clause-turn
returns-in-Stop-clause-turn g c = sym (ap last_reply (rw c.in-Stop.is at c.at.ensures.moved))

pub returns-in-Stop-clause-kept : goal.returns-in-Stop-clause-kept
returns-in-Stop-clause-kept g c = rw c.in-Stop.is at c.at.ensures.kept

pub returns-in-Stop-clause-same : goal.returns-in-Stop-clause-same
returns-in-Stop-clause-same g c = rw c.in-Stop.is at c.at.ensures.same

pub returns-in-Stop-clause-still : goal.returns-in-Stop-clause-still
returns-in-Stop-clause-still g c = rw c.in-Stop.is at c.at.ensures.still
