-- Reading in steps, of which each may find that the bytes are no payload.
use Rattle.std.specs.Prelude.{◌≡◌, Option, Some, None, Result, Ok, Err}
use Rattle.reg_wire.specs.declared.fault.ReadFault.{ReadFault}
use Rattle.reg_wire.specs.declared.fault.ReadFault.TheVariants.{Memory, Malformed}

-- the reading comes to nothing, unless memory ran out
abbrev pub Fails : {Y : Type 0} → ReadFault → Option Y → Type 0
Fails Memory reading = Unit {0}
Fails Malformed reading = reading ≡ None

-- what a function returned, seen by view, is what the reading gives, unless memory ran out
abbrev pub Gives : {X Y : Type 0} → (X → Y) → Result X ReadFault → Option Y → Type 0
Gives view (Ok x) reading = reading ≡ Some (view x)
Gives view (Err fault) reading = Fails fault reading
