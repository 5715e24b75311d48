-- Grants gathered in order.
use Rattle.std.specs.Prelude.{◌≡◌, ◌&&◌, ℕ, List, Bool, map}
use Rattle.std.specs.List.{list_any}
use Rattle.std.specs.List.Sorted.{IsStrictlySortedBy}
use Rattle.std.specs.Map.{values_of}
use Rattle.std.specs.Ordering.{eq_by_cmp}
use Rattle.reg_terms.specs.declared.kinds.Object.{Object}
use Rattle.reg_terms.specs.declared.kinds.Scope.{Scope}
use Rattle.reg_terms.specs.declared.rows.InheritRow.{InheritRow}
use Rattle.reg_terms.specs.Kinds.{is_of_kind, same_scope}
use Rattle.reg_priv.specs.Grants.{Grant, given}
use Rattle.reg_priv.specs.Holders.{grant_cmp, place_of}

-- the two grants are one
abbrev pub same_grant : Grant → Grant → Bool
same_grant = eq_by_cmp grant_cmp

-- whether a grant is among some
abbrev pub is_among : Grant → List Grant → Bool
is_among g gs = list_any (same_grant g) gs

-- an inherit has this scope, is for objects of this kind, and gives this grant
abbrev pub brings : Object → Scope → Grant → InheritRow → Bool
brings o s g row = same_scope row.scope s && (is_of_kind row.kind o && same_grant g (given row))

-- a grant at its place
abbrev pub entry : Grant → (ℕ × ℕ × ℕ) × Grant
entry g = (place_of g, g)

-- each stands at its place, in order
pub record AreInPlace (entries : List ((ℕ × ℕ × ℕ) × Grant)) : Type 0 where
  pub placed : entries ≡ map entry (values_of entries)
  pub sorted : IsStrictlySortedBy grant_cmp (values_of entries)
