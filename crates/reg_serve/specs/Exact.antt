-- The replies where memory is never wanting: one function of the state, the moments to come and the
-- messages.
use Rattle.std.specs.Prelude.{ℕ, List, [], ◌∷◌, map}
use Rattle.reg_outside.specs.Streams.{first_moment, later_moments}
use Rattle.reg_terms.specs.declared.reply.Reply.{Reply}
use Rattle.reg_terms.specs.declared.reply.Reply.TheVariants as reply
use Rattle.reg_machine.specs.History.{State}
use Rattle.reg_service.specs.Turn.{turn}
use Rattle.reg_http.specs.declared.call.Call.{Call}
use Rattle.reg_serve.specs.Answered.{Answer, Question, refuses, reads, question_of}

-- the replies that were given
abbrev pub replies_of : List Answer → List Reply
replies_of answers = map (λ (a : Answer). a.told) answers

-- the reply to a message, and the state after it
abbrev pub replied : State → List ℕ → Question → Reply × State
replied s coming (refuses r) = (reply.Refused r, s)
replied s coming (reads reading) = turn s (first_moment coming) reading

-- the moments that are still to come after it
abbrev pub coming_after : List ℕ → Question → List ℕ
coming_after coming (refuses r) = coming
coming_after coming (reads reading) = later_moments coming

-- the replies to messages, one after another
abbrev pub replies : State → List ℕ → List Call → List Reply
replies s coming [] = []
replies s coming (call ∷ calls) =
    (replied s coming (question_of call)).0
    ∷ replies (replied s coming (question_of call)).1 (coming_after coming (question_of call)) calls

-- and the last state
abbrev pub last_state : State → List ℕ → List Call → State
last_state s coming [] = s
last_state s coming (call ∷ calls) =
    last_state (replied s coming (question_of call)).1
    (coming_after coming (question_of call)) calls
