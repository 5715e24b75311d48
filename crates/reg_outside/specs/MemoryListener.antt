-- What contracts see of a listener in memory.
use Rattle.std.specs.Prelude.{◌≡◌, ℕ, ◌+◌, ◌-◌, List, [], ◌∷◌, ◌++◌, Option, Some, None}
use Rattle.std.specs.Prelude.{Bool, false, true, not, if◌then◌else◌, map, filter, find, IfSome}
use Rattle.std.specs.List.{list_any}
use Rattle.reg_outside.specs.declared.listener.Accepted.{Accepted}
use Rattle.reg_outside.specs.declared.memory_listener.GivenBack.{GivenBack}
use Rattle.reg_outside.specs.declared.memory_listener.Incoming.{Incoming}
use Rattle.reg_outside.specs.declared.memory_listener.Incoming.TheVariants.{Opens, Sends}
use Rattle.reg_outside.specs.Connections.{Arrival, Back, ConnState, Connections, opens, sends}
use Rattle.reg_outside.specs.Connections.{is_open_one, seen_in_memory, with_more_in_memory}
use Rattle.reg_outside.specs.Memory.{Calls}

-- A listener in memory: its port, what is still to come, how many connections have come, how many
-- are out, those given back, and the calls.
pub record ListenerState : Type 0 where
  pub port : Option ℕ
  pub coming : List Incoming
  pub came : ℕ
  pub out : ℕ
  pub given_back : List GivenBack
  pub calls : Calls

-- what is still to come, as it is told
abbrev pub arrival_of : Incoming → Arrival
arrival_of (Opens conn) = opens (seen_in_memory conn)
arrival_of (Sends number bytes) = sends number bytes.items

-- a connection that was given back, as it is told
abbrev pub back_in_memory : GivenBack → Back
back_in_memory b = record {
  number = b.number;
  conn = seen_in_memory b.conn;
  is_open = b.is_open;
}

-- a listener, as it is told
abbrev pub told_in_memory : ListenerState → Connections
told_in_memory s = record {
  coming = map arrival_of s.coming;
  came = s.came;
  out = s.out;
  given_back = map back_in_memory s.given_back;
}

-- this is an open connection with that number
abbrev pub is_open_here : ℕ → GivenBack → Bool
is_open_here number back = is_open_one number (back_in_memory back)

-- these connections without the open ones that have that number
abbrev pub without : ℕ → List GivenBack → List GivenBack
without number backs = filter (λ (back : GivenBack). not (is_open_here number back)) backs

-- bytes of a connection that isn't there, or isn't open
abbrev pub is_lost : List GivenBack → Incoming → Bool
is_lost backs (Opens conn) = false
is_lost backs (Sends number bytes) = not (list_any (is_open_here number) backs)

-- what is still to come, from the next turn on: `next_turn` in memory
abbrev pub next_turn_here : List GivenBack → List Incoming → List Incoming
next_turn_here backs [] = []
next_turn_here backs (first ∷ more) =
    if is_lost backs first then next_turn_here backs more else first ∷ more

-- the first of these turns is of an open connection, for whose bytes memory is needed
abbrev pub is_again : List Incoming → Bool
is_again [] = false
is_again (Opens conn ∷ more) = false
is_again (Sends number bytes ∷ more) = true

-- The first of these turns was given, as `HasTurn` says, or none where none is left; the calls
-- stay.
abbrev pub GivesTurn : List Incoming → Option (Accepted ConnState) → ListenerState → ListenerState
    → Type 0
GivesTurn [] None old new = new ≡ old
GivesTurn [] (Some a) old new = ⊥
GivesTurn (first ∷ more) None old new = ⊥
GivesTurn (Opens conn ∷ more) (Some a) old new =
    (a ≡ record { number = old.came; conn = conn }) × (new ≡ record old {
      coming = more;
      came = old.came + 1;
      out = old.out + 1;
    })
GivesTurn (Sends number bytes ∷ more) (Some a) old new =
    (a.number ≡ number)
    × IfSome (find (is_open_here number) old.given_back)
    (λ (back : GivenBack). a.conn ≡ with_more_in_memory bytes.items back.conn)
    × (new ≡ record old {
      coming = more;
      out = old.out + 1;
      given_back = without number old.given_back;
    })

-- a connection is given back
abbrev pub takes_back : GivenBack → ListenerState → ListenerState
takes_back back s = record s {
  out = s.out - 1;
  given_back = s.given_back ++ back ∷ [];
}
