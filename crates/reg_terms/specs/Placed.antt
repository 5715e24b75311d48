-- Values with their digests, in the order of their numbers.
use Rattle.std.specs.Prelude.{◌≡◌, ◌≤◌, ◌^◌, ℕ, suc, List, [], ◌∷◌, map}
use Rattle.reg_terms.specs.Digests.{digest}
use Rattle.reg_terms.specs.declared.kinds.AttrValue.{AttrValue}
use Rattle.reg_terms.specs.declared.many_values.PlacedValue.{PlacedValue}

-- the values alone
abbrev pub values_of : List PlacedValue → List AttrValue
values_of rows = map (λ (p : PlacedValue). p.value) rows

-- numbers rise from a floor, and stay below the next one; the digests are those of the values
abbrev pub Placed : ℕ → ℕ → List PlacedValue → Type 0
Placed floor next [] = floor ≤ next
Placed floor next (p ∷ ps) =
    (floor ≤ p.number) × ((p.digest ≡ digest p.value) × Placed (suc p.number) next ps)

-- and so from zero, while numbers last
pub record ArePlaced (next : ℕ) (rows : List PlacedValue) : Type 0 where
  pub placed : Placed 0 next rows
  pub small : next ≤ 2 ^ 62
