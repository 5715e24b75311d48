-- One way of many, by its place among them.
use Rattle.std.specs.Prelude.{◌≡◌, ◌≤◌, ℕ, List, ◌∷◌, Bool, Option, None, Some, slice_get}
use Rattle.std.specs.Option.{option_map}
use Rattle.reg_terms.specs.declared.rows.MemberRow.{MemberRow}
use Rattle.reg_reasons.specs.Ways.{Way, onward}

-- the k-th way is the j-th on from a row's member, behind this row, which stands at a place
pub record Picks (W : ℕ → List Way) (last : Bool) (s : ℕ) (rows : List MemberRow) (found : List Way)
    (k place j : ℕ) : Type 0 where
  pub row : MemberRow
  pub stands : slice_get rows place ≡ Some row
  pub way : slice_get found k
      ≡ option_map (λ (way : Way). row ∷ way) (slice_get (onward W last s row.member) j)
  pub earlier : j ≤ k

-- the place and the j, or none where there is no k-th way
abbrev pub MayPick : (ℕ → List Way) → Bool → ℕ → List MemberRow → List Way → ℕ → Option (ℕ × ℕ)
    → Type 0
MayPick W last s rows found k None = slice_get found k ≡ None
MayPick W last s rows found k (Some pick) = Picks W last s rows found k pick.0 pick.1
