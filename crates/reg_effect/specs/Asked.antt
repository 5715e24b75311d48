-- For whom a change asks at its own group.
use Rattle.std.specs.Prelude.{◌≡◌, ⊤, ℕ, ◌==◌, ◌||◌, List, [], ◌∷◌, Bool, true, false}
use Rattle.reg_terms.specs.declared.rows.CompositeRow.{CompositeRow}
use Rattle.reg_terms.specs.declared.kinds.Member.{Member}
use Rattle.reg_terms.specs.declared.kinds.Member.TheVariants.{Person, Group}
use Rattle.reg_terms.specs.declared.kinds.SetOp.{SetOp}
use Rattle.reg_terms.specs.declared.kinds.SetOp.TheVariants.{Intersection, Complement, Union}
use Rattle.reg_effect.specs.declared.live.Live.{Live}
use Rattle.reg_effect.specs.declared.live.Change.{Change}
use Rattle.reg_effect.specs.declared.live.Change.TheVariants.{RowOn, RowOff, FactorsOn, FactorsOff}
use Rattle.reg_terms.specs.Rows.{is_composite}
use Rattle.reg_effect.specs.Order.{has_live_rows}

-- for whom a row of this member asks: the person, or the members that M gives the nested group
abbrev pub asks_row : (ℕ → ℕ → Bool) → Member → ℕ → Bool
asks_row M (Person p) q = p == q
asks_row M (Group h) q = M h q

-- whether a composite may have whom its factors have so
abbrev pub asks_of : SetOp → Bool → Bool → Bool
asks_of Intersection a b = a
asks_of Complement a b = a
asks_of Union a b = a || b

-- whose membership of the change's group may differ after it, by the memberships M before it
abbrev pub asks : Change → (ℕ → ℕ → Bool) → ℕ → Bool
asks (RowOn g m) M q = asks_row M m q
asks (RowOff g m) M q = asks_row M m q
asks (FactorsOn g op left right) M q = asks_of op (M left q) (M right q)
asks (FactorsOff g) M q = M g q

-- no group is a composite twice
abbrev pub Once : List CompositeRow → Type 0
Once [] = ⊤
Once (c ∷ cs) = (is_composite c.group cs ≡ false) × Once cs

-- composites have no rows, and each group is a composite once at most
pub record IsWell (L : Live) : Type 0 where
  pub rowless : (g : ℕ) → is_composite g L.composites ≡ true → has_live_rows g L.rows ≡ false
  pub once : Once L.composites
