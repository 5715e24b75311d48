-- What a reader gives of the bytes that it was fed.
use Rattle.std.specs.Prelude.{◌≡◌, ℕ, ◌+◌, ◌⊎◌, List, [], ◌++◌, length, Option, Some, None}
use Rattle.reg_http.specs.declared.call.HeadFault.{HeadFault}
use Rattle.reg_http.specs.declared.call.Turn.{Turn}
use Rattle.reg_http.specs.declared.call.Turn.TheVariants as turn
use Rattle.reg_http.specs.Messages.{IsMessage, HasFault, IsUnfinished}

-- the bytes that were fed and not given yet, how many are held with those that were given, and the
-- fault once one was given
pub record Reading : Type 0 where
  pub rest : List ℕ
  pub held : ℕ
  pub fault : Option HeadFault

-- nothing was fed
abbrev pub start : Reading
start = record { rest = []; held = 0; fault = None }

-- a piece is fed
abbrev pub fed : Reading → List ℕ → Reading
fed reading piece = record {
  rest = reading.rest ++ piece;
  held = reading.held + length piece;
  fault = reading.fault;
}

-- a message is given and taken out; or the bytes hold neither a message nor a fault; or their fault
-- is given, then for good
abbrev pub GivesTurn : Reading → Turn → Reading → Type 0
GivesTurn before (turn.Call call) after =
    (before.fault ≡ None) × (after.fault ≡ None) × IsMessage before.rest call after.rest
GivesTurn before turn.NeedMore after =
    (before.fault ≡ None) × (after ≡ before) × IsUnfinished before.rest
GivesTurn before (turn.Bad fault) after =
    (after ≡ record { rest = before.rest; held = before.held; fault = Some fault })
    × ((before.fault ≡ Some fault) ⊎ ((before.fault ≡ None) × HasFault before.rest fault))
