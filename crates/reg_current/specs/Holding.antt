-- What a machine at a moment asks of events: they suit the facts, close no circle, and no row ends
-- before it begins or has ended.
use Rattle.std.specs.Prelude.{◌<◌, ⊤, ℕ, List, [], ◌∷◌, IfSome}
use Rattle.reg_terms.specs.declared.event.Event.{Event}
use Rattle.reg_terms.specs.declared.event.Event.TheVariants.{RowAdded, RowRedated}
use Rattle.reg_terms.specs.declared.event.Event.TheVariants.{GrantAdded, GrantBegan}
use Rattle.reg_facts.specs.Events.{happened}
use Rattle.reg_facts.specs.Lists.{Lists}
use Rattle.reg_facts.specs.Suiting.{Suits}
use Rattle.reg_current.specs.Circles.{ClosesNone}
use Rattle.reg_current.specs.Invariant.{IsOpen, IsGrantOpen}

-- a row that comes, or has other dates, ends later, and after it begins; a grant that comes, or is
-- on now, ends later, and begins later if it hasn't begun
abbrev pub EndsLater : ℕ → Event → Type 0
EndsLater at (RowAdded row) = IsOpen at row
EndsLater at (RowRedated g m from until) = IfSome until (λ u. (at < u) × (from < u))
EndsLater at (GrantAdded row) = IsGrantOpen at row
EndsLater at (GrantBegan row) = IsGrantOpen at row
EndsLater at _ = ⊤

-- an event can happen at a moment
pub record Holds (at : ℕ) (e : Event) (f : Lists) : Type 0 where
  pub suits : Suits e f
  pub no_circle : ClosesNone e f
  pub later : EndsLater at e

-- and so can some, one after another
abbrev pub AllHold : ℕ → List Event → Lists → Type 0
AllHold at [] f = ⊤
AllHold at (e ∷ es) f = Holds at e f × AllHold at es (happened e f)
