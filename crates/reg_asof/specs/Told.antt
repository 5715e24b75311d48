-- The replies of a registry that nothing changes.
use Rattle.std.specs.Prelude.{◌≡◌, ◌⊎◌, ℕ, List, [], ◌∷◌, Option, Result, Ok, Err, codes}
use Rattle.std.specs.Io.KnownBytes.{append_known}
use Rattle.reg_outside.specs.Streams.{WritesFront}
use Rattle.reg_terms.specs.declared.refusal.Refusal.{Refusal}
use Rattle.reg_terms.specs.declared.refusal.Refusal.TheVariants.{BadRequest}
use Rattle.reg_terms.specs.declared.request.Request.{Request}
use Rattle.reg_terms.specs.declared.request.Op.{Op}
use Rattle.reg_terms.specs.declared.request.Op.TheVariants as op
use Rattle.reg_terms.specs.declared.reply.Reply.{Reply}
use Rattle.reg_terms.specs.declared.reply.Reply.TheVariants as reply
use Rattle.reg_machine.specs.History.{State}
use Rattle.reg_view.specs.AtClock.{told}
use Rattle.reg_service.specs.Turn.{answered}
use Rattle.reg_session.specs.Lines.{readings}
use Rattle.reg_session.specs.Replies.{lines_of}

-- the reply to what asks for a change: that it is of no known op
abbrev pub no_change : Reply
no_change = reply.Refused (BadRequest (codes "op"))

-- the reply to what the caller of this text asks: a query is answered at the clock
abbrev pub asked_op : State → List ℕ → Op → Reply
asked_op s by (op.Command command) = no_change
asked_op s by (op.Query query) = answered (told s.history s.clock by query)
asked_op s by (op.Load job table) = no_change

-- the reply to a reading
abbrev pub asked_of : State → Result Request Refusal → Reply
asked_of s (Err r) = reply.Refused r
asked_of s (Ok request) = asked_op s request.by request.op

-- a reply that may be given to a reading: the one that is due, or that there was no memory
abbrev pub MayTell : State → Result Request Refusal → Reply → Type 0
MayTell s reading given = (given ≡ asked_of s reading) ⊎ (given ≡ reply.NoMemory)

-- replies that may be given to readings, one to each
abbrev pub MayTellAll : State → List (Result Request Refusal) → List Reply → Type 0
MayTellAll s [] [] = Unit {0}
MayTellAll s [] (given ∷ replies) = ⊥
MayTellAll s (reading ∷ more) [] = ⊥
MayTellAll s (reading ∷ more) (given ∷ replies) =
    MayTell s reading given × MayTellAll s more replies

-- These lines were answered: each that isn't skipped by one reply, in order, and the replies were
-- written, each with its LF.
pub record Told (s : State) (ls : List (List ℕ)) (old new : Option (List ℕ)) : Type 0 where
  pub replies : List Reply
  pub due : MayTellAll s (readings ls) replies
  pub text : new ≡ append_known old (lines_of replies)

-- of such replies a front was written, whole or cut short
pub record ToldInPart (s : State) (ls : List (List ℕ)) (old new : Option (List ℕ)) : Type 0 where
  pub replies : List Reply
  pub due : MayTellAll s (readings ls) replies
  pub front : WritesFront old new (lines_of replies)
