-- Events after which no group depends on itself.
use Rattle.std.specs.Prelude.{◌≡◌, ⊤, ℕ, Bool, false}
use Rattle.reg_terms.specs.declared.event.Event.{Event}
use Rattle.reg_terms.specs.declared.event.Event.TheVariants.{RowAdded, Composed}
use Rattle.reg_terms.specs.declared.kinds.Member.TheVariants.{Group}
use Rattle.reg_facts.specs.Lists.{Lists}
use Rattle.reg_graph.specs.Edges.{reaches}
use Rattle.reg_effect.specs.Standing.{standing}

-- a row of the group that names the other, or a factor, would lead back: the other is the group or
-- depends on it
abbrev pub leads_back : ℕ → ℕ → Lists → Bool
leads_back g other f = reaches (standing f.rows f.composites) other g

-- neither the member nor a factor that comes is the group or depends on it
abbrev pub ClosesNone : Event → Lists → Type 0
ClosesNone (RowAdded row) f = (h : ℕ) → row.member ≡ Group h → leads_back row.group h f ≡ false
ClosesNone (Composed row) f =
    (leads_back row.group row.left f ≡ false) × (leads_back row.group row.right f ≡ false)
ClosesNone _ f = ⊤
