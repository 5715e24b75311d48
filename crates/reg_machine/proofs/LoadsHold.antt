-- What a load makes happen closes no circle, and ends no row: where it suits the facts it can happen.
use Rattle.std.proofs.Common.{ℕ, List, [], ◌∷◌, ◌++◌, map}
use Rattle.std.specs.List.{AllByRecursion}
use Rattle.reg_base.specs.declared.entity.Entity.{Entity}
use Rattle.reg_terms.specs.declared.event.Event.{Event}
use Rattle.reg_terms.specs.declared.lists.LoadRow.{LoadRow}
use Rattle.reg_terms.specs.declared.rows.GrantRow.{GrantRow}
use Rattle.reg_terms.specs.declared.rows.PersonRow.{PersonRow}
use Rattle.reg_facts.specs.Events.{all_happened, grants_added, group_events, groups_events, happened, load_events, new_groups_grants, row_comes, row_goes, row_named, rows_events, with_groups}
use Rattle.reg_facts.specs.Lists.{Lists}
use Rattle.reg_facts.specs.Suiting.{AllSuit}
use Rattle.reg_current.specs.Circles.{ClosesNone}
use Rattle.reg_current.specs.Holding.{AllHold, EndsLater}
use Rattle.reg_current.specs.Invariant.{IsGrantOpen}
use Rattle.reg_machine.proofs.OpenGrants.{new_groups_open}

-- an event closes no circle, whatever the facts, and no row ends early by it
record IsCalm (at : ℕ) (e : Event) : Type 0 where
  no_circle : (f : Lists) → ClosesNone e f
  later : EndsLater at e

-- such events can happen where they suit the facts
calm_hold : (at : ℕ) (es : List Event) (f : Lists) → AllByRecursion (IsCalm at) es → AllSuit es f → AllHold at es f
calm_hold at [] f calm suit = tt
calm_hold at (e ∷ es) f calm suit = (record { suits = suit.0; no_circle = calm.0.no_circle f; later = calm.0.later }, calm_hold at es (happened e f) calm.1 suit.1)

both_calm : (at : ℕ) (es ds : List Event) → AllByRecursion (IsCalm at) es → AllByRecursion (IsCalm at) ds → AllByRecursion (IsCalm at) (es ++ ds)
both_calm at [] ds a b = b
both_calm at (e ∷ es) ds a b = (a.0, both_calm at es ds a.1 b)

grants_calm : (at : ℕ) (rows : List GrantRow) → AllByRecursion (IsGrantOpen at) rows → AllByRecursion (IsCalm at) (grants_added rows)
grants_calm at [] opens = tt
grants_calm at (row ∷ rows) opens = (record { no_circle = λ f. tt; later = opens.0 }, grants_calm at rows opens.1)

groups_calm : (at : ℕ) (by : Entity) (names : List (List ℕ)) (f : Lists) → AllByRecursion (IsCalm at) (groups_events by names f)
groups_calm at by [] f = tt
groups_calm at by (name ∷ names) f =
    (record { no_circle = λ g. tt; later = tt }, both_calm at (grants_added (new_groups_grants by name f)) (groups_events by names (all_happened (group_events by name f) f)) (grants_calm at (new_groups_grants by name f) (new_groups_open at by name f)) (groups_calm at by names (all_happened (group_events by name f) f)))

going_calm : (at : ℕ) (rows : List PersonRow) → AllByRecursion (IsCalm at) (map row_goes rows)
going_calm at [] = tt
going_calm at (row ∷ rows) = (record { no_circle = λ f. tt; later = tt }, going_calm at rows)

coming_calm : (at : ℕ) (rows : List PersonRow) → AllByRecursion (IsCalm at) (map (row_comes at) rows)
coming_calm at [] = tt
coming_calm at (row ∷ rows) = (record { no_circle = λ f h is. absurd (let clash : ⊥ = cc in clash); later = tt }, coming_calm at rows)

load_calm : (at : ℕ) (by : Entity) (created : List (List ℕ)) (removed added : List LoadRow) (f : Lists) → AllByRecursion (IsCalm at) (load_events at by created removed added f)
unfolding load_events
load_calm at by created removed added f =
    let g = with_groups by created f in
    both_calm at (groups_events by created f) (rows_events at (map (row_named g) removed) (map (row_named g) added)) (groups_calm at by created f)
    (both_calm at (map row_goes (map (row_named g) removed)) (map (row_comes at) (map (row_named g) added)) (going_calm at (map (row_named g) removed)) (coming_calm at (map (row_named g) added)))

pub load_hold : (at : ℕ) (by : Entity) (created : List (List ℕ)) (removed added : List LoadRow) (f : Lists) → AllSuit (load_events at by created removed added f) f → AllHold at (load_events at by created removed added f) f
load_hold at by created removed added f suit = calm_hold at (load_events at by created removed added f) f (load_calm at by created removed added f) suit
