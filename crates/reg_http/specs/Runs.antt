-- Many turns, and how the bytes were cut.
use Rattle.std.specs.Prelude.{◌≡◌, ℕ, ◌⊎◌, List, [], ◌∷◌, ◌++◌, IsSome, IfSome}
use Rattle.reg_http.specs.declared.call.Call.{Call}
use Rattle.reg_http.specs.declared.call.Turn.{Turn}
use Rattle.reg_http.specs.declared.call.Turn.TheVariants as turn
use Rattle.reg_http.specs.Messages.{IsMessage, HasFault, IsUnfinished}
use Rattle.reg_http.specs.Turns.{Reading, fed, GivesTurn}

-- the bytes are these messages, one after another, and then the rest
abbrev pub AreMessages : List ℕ → List Call → List ℕ → Type 0
AreMessages bytes [] rest = bytes ≡ rest
AreMessages bytes (call ∷ calls) rest =
    (later : List ℕ) × IsMessage bytes call later × AreMessages later calls rest

-- of all bytes fed these messages were given, and then perhaps the fault of the rest
pub record HasGiven (bytes : List ℕ) (calls : List Call) (reading : Reading) : Type 0 where
  pub messages : AreMessages bytes calls reading.rest
  pub fault_is : IfSome reading.fault (HasFault reading.rest)

-- the message of a turn, if it is one
abbrev pub calls_in : Turn → List Call
calls_in (turn.Call call) = call ∷ []
calls_in turn.NeedMore = []
calls_in (turn.Bad fault) = []

-- a piece is fed, or a turn is given
pub data Step : Type 0 where
  feeds : List ℕ → Step
  gives : Turn → Step

-- the steps lead from one reading to another
abbrev pub Leads : List Step → Reading → Reading → Type 0
Leads [] before after = before ≡ after
Leads (feeds piece ∷ steps) before after = Leads steps (fed before piece) after
Leads (gives turn ∷ steps) before after =
    (between : Reading) × GivesTurn before turn between × Leads steps between after

-- all bytes that the steps feed
abbrev pub bytes_of : List Step → List ℕ
bytes_of [] = []
bytes_of (feeds piece ∷ steps) = piece ++ bytes_of steps
bytes_of (gives turn ∷ steps) = bytes_of steps

-- all messages that the steps give
abbrev pub calls_of : List Step → List Call
calls_of [] = []
calls_of (feeds piece ∷ steps) = calls_of steps
calls_of (gives turn ∷ steps) = calls_in turn ++ calls_of steps

-- the last turn was a fault, or there was nothing more to give
abbrev pub IsDrained : Reading → Type 0
IsDrained reading = IsSome reading.fault ⊎ IsUnfinished reading.rest
