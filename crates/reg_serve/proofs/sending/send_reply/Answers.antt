use Rattle.std.proofs.Common.{◌≡◌, refl, ◌∙◌, inl}
use Rattle.reg_calls.specs.Responses.{response_to}
use Rattle.reg_serve.proofs.Answering.{sends_bytes}
use Rattle.reg_serve.proofs.sending.send_reply.Goals as goal

-- the reply was printed
pub returns-in-Ok-clause-sends : goal.returns-in-Ok-clause-sends
returns-in-Ok-clause-sends g c =
    let printed : c.in-Ok.text.items ≡ response_to c.args.asked.now c.args.close c.args.reply.now = c.in-Ok.ensures in
    let lent : c.deref.result.now ≡ c.in-Ok.text.items = c.deref.ensures.value in
    sends_bytes _ _ _ _ _ _ c.send_bytes.result (inl refl) (rw (lent ∙ printed) at c.send_bytes.ensures.sent) (rw (lent ∙ printed) at c.send_bytes.ensures.front) c.send_bytes.ensures.why

-- there was no memory for it
pub returns-in-Err-clause-sends : goal.returns-in-Err-clause-sends
returns-in-Err-clause-sends g c = c.send_unprinted.ensures.sends c.args.asked.now
