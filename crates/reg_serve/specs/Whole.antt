-- Connections that were served whole, where memory wasn't wanting.
use Rattle.std.specs.Prelude.{◌≡◌, ◌≢◌, ◌⊎◌, ℕ, List, All, Option}
use Rattle.std.proofs.Common.{inl, inr}
use Rattle.reg_terms.specs.declared.reply.Reply.{Reply}
use Rattle.reg_terms.specs.declared.reply.Reply.TheVariants as reply
use Rattle.reg_session.specs.Answered.{Point}
use Rattle.reg_serve.specs.Answered.{Outcome, goes}
use Rattle.reg_serve.specs.Exact.{replies_of}
use Rattle.reg_serve.specs.Sessions.{EndsAtMessage, EndsBetween, IsQuiet, Session}
use Rattle.reg_serve.specs.declared.ended.Ended.{Ended}
use Rattle.reg_serve.specs.declared.ended.Ended.TheVariants as ended

-- none of these replies says that there was no memory
abbrev pub AreSure : List Reply → Type 0
AreSure replies = All (λ told. told ≢ reply.NoMemory) replies

-- nor does the reply to the last message, or to a head that isn't taken
abbrev pub IsSureEnd : (p : Point) (rest : List ℕ) (w ms : Option (List ℕ)) (e : Ended)
    (to : Outcome) → EndsAtMessage p rest w ms e to → Type 0
IsSureEnd p rest w ms ended.Closed (goes s) (inl m) = AreSure (replies_of m.3.1.answers)
IsSureEnd p rest w ms ended.Bad (goes s) (inr f) = f.2.1.0 ≢ reply.NoMemory
IsSureEnd p rest w ms e to m = Unit {0}

-- nor any reply at the end, if there is one
abbrev pub IsSureAtLast : (p : Point) (rest taken : List ℕ) (now w ms : Option (List ℕ)) (e : Ended)
    (to : Outcome)
    → EndsAtMessage p rest w ms e to ⊎ (IsQuiet p w ms to × EndsBetween taken now rest e) → Type 0
IsSureAtLast p rest taken now w ms e to (inl m) = IsSureEnd p rest w ms e to m
IsSureAtLast p rest taken now w ms e to (inr q) = Unit {0}

-- A session over these bytes that wrote this. It ended since no more came, or with a message that
-- closes the connection or isn't taken; and no reply says that there was no memory.
pub record Whole (before : Point) (taken : List ℕ) (written : Option (List ℕ)) : Type 0 where
  pub left : Option (List ℕ)
  pub now : Option (List ℕ)
  pub moments : Option (List ℕ)
  pub end : Ended
  pub to : Outcome
  pub session : Session before left now written moments end to
  pub bytes : session.taken ≡ taken
  pub whole : (end ≡ ended.Silent) ⊎ ((end ≡ ended.Closed) ⊎ (end ≡ ended.Bad))
  pub sure : AreSure (replies_of session.all.answers)
  pub sure_last : IsSureAtLast session.last session.reading.rest session.taken now written moments
      end to session.ends
