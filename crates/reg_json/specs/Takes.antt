-- Taking data apart in steps, of which each may find that the data are no reply's.
use Rattle.std.specs.Prelude.{◌≡◌, Option, Some, None, Result, Ok, Err}
use Rattle.reg_json.specs.declared.taking.TakeFault.{TakeFault}
use Rattle.reg_json.specs.declared.taking.TakeFault.TheVariants.{Memory, Unlike}

-- the taking comes to nothing, unless memory ran out
abbrev pub Misses : {Y : Type 0} → TakeFault → Option Y → Type 0
Misses Memory taken = Unit {0}
Misses Unlike taken = taken ≡ None

-- what a function returned, seen by view, is what is taken, unless memory ran out
abbrev pub Takes : {X Y : Type 0} → (X → Y) → Result X TakeFault → Option Y → Type 0
Takes view (Ok x) taken = taken ≡ Some (view x)
Takes view (Err fault) taken = Misses fault taken
