-- What follows a response.
use Rattle.std.specs.Prelude.{◌≡◌, ℕ, List, Bool, true, false, Option, Result, Ok, Err}
use Rattle.std.specs.Io.KnownBytes.{append_known}
use Rattle.reg_outside.specs.Streams.{WritesFront}
use Rattle.reg_terms.specs.declared.reply.Reply.{Reply}
use Rattle.reg_service.specs.declared.service.Next.{Next}
use Rattle.reg_service.specs.declared.service.Next.TheVariants as next
use Rattle.reg_service.specs.Opening.{Served}
use Rattle.reg_session.specs.Replies.{IsShown, is_accepted}
use Rattle.reg_http.specs.declared.call.Call.{Call}
use Rattle.reg_calls.specs.Asked.{closes_by}
use Rattle.reg_calls.specs.Responses.{response_to, fault_response}
use Rattle.reg_calls.specs.declared.asked.Asked.{Asked}
use Rattle.reg_serve.specs.declared.ended.Ended.{Ended}
use Rattle.reg_serve.specs.declared.ended.Ended.TheVariants as ended

-- A response was sent: whole; or a write failed, and a front of it was sent; or an accepted
-- command's reply found no memory, and nothing was sent.
abbrev pub SendsReply : {T : Type 0} → Asked → Bool → Reply → Option (List ℕ) → Option (List ℕ)
    → Result T Ended → Type 0
SendsReply a close due old new (Ok done) =
    (shown : Reply) × IsShown due shown × (new ≡ append_known old (response_to a close shown))
SendsReply a close due old new (Err ended.Silent) = ⊥
SendsReply a close due old new (Err ended.Closed) = ⊥
SendsReply a close due old new (Err ended.Bad) = ⊥
SendsReply a close due old new (Err ended.Failed) =
    (shown : Reply) × IsShown due shown × WritesFront old new (response_to a close shown)
SendsReply a close due old new (Err ended.TooMuch) = ⊥
SendsReply a close due old new (Err ended.NoMemory) = (is_accepted due ≡ true) × (new ≡ old)
SendsReply a close due old new (Err ended.Stopped) = ⊥

-- a response to a reply, or to what is shown of it, was sent whole
abbrev pub Sent : Asked → Bool → Reply → (old new : Option (List ℕ)) → Type 0
Sent a close due old new =
    (shown : Reply) × IsShown due shown × (new ≡ append_known old (response_to a close shown))

-- or a front of it
abbrev pub SentFront : Asked → Bool → Reply → (old new : Option (List ℕ)) → Type 0
SentFront a close due old new =
    (shown : Reply) × IsShown due shown × WritesFront old new (response_to a close shown)

-- after a response the service goes on, or the connection closes; or the response wasn't sent
-- whole; or it was an accepted command's, found no memory, and nothing of it was sent
abbrev pub Finishes : {K : Type 0} → Asked → Call → Reply → (old new : Option (List ℕ)) → Served K
    → Result (Served K) (Ended × Next K) → Type 0
Finishes a call due old new s (Ok after) =
    (after ≡ s) × (closes_by a call ≡ false) × Sent a false due old new
Finishes a call due old new s (Err (ended.Closed, n)) =
    (n ≡ next.Go s) × (closes_by a call ≡ true) × Sent a true due old new
Finishes a call due old new s (Err (ended.Failed, n)) =
    (n ≡ next.Go s) × SentFront a (closes_by a call) due old new
Finishes a call due old new s (Err (ended.NoMemory, n)) =
    (n ≡ next.Go s) × (is_accepted due ≡ true) × (new ≡ old)
Finishes a call due old new s (Err (ended.Silent, n)) = ⊥
Finishes a call due old new s (Err (ended.Bad, n)) = ⊥
Finishes a call due old new s (Err (ended.TooMuch, n)) = ⊥
Finishes a call due old new s (Err (ended.Stopped, n)) = ⊥

-- it was sent whole, or a front of it
abbrev pub SentFault : Reply → (old new : Option (List ℕ)) → Type 0
SentFault due old new =
    (shown : Reply) × IsShown due shown × (new ≡ append_known old (fault_response shown))

abbrev pub SentFaultFront : Reply → (old new : Option (List ℕ)) → Type 0
SentFaultFront due old new =
    (shown : Reply) × IsShown due shown × WritesFront old new (fault_response shown)
