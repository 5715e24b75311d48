-- How many ways lead on from each group, by their length.
use Rattle.std.specs.Prelude.{◌≡◌, ℕ, ◌+◌, ◌<◌, ◌≤◌, List, [], Bool, min, length, get_or, unwrap_or}
use Rattle.std.specs.Map.{lookup}
use Rattle.std.specs.BTreeMap.{is_at}
use Rattle.std.specs.Ordering.{nat_cmp}
use Rattle.reg_terms.specs.declared.rows.MemberRow.{MemberRow}
use Rattle.reg_reasons.specs.Ways.{Way, ways}

-- a number, or the greatest of 64 bits
abbrev pub capped : ℕ → ℕ
capped n = min n 18446744073709551615

-- a group's number, or 0
abbrev pub count_of : List (ℕ × ℕ) → ℕ → ℕ
count_of counts g = unwrap_or (lookup (is_at (nat_cmp g)) counts) 0

-- the numbers of the ways that W has for each group
abbrev pub AreOf : (ℕ → List Way) → List (ℕ × ℕ) → Type 0
AreOf W counts = (g : ℕ) → count_of counts g ≡ capped (length (W g))

-- levels of such numbers, where W has the ways of so many rows
abbrev pub AreLevels : (ℕ → ℕ → List Way) → List (List (ℕ × ℕ)) → Type 0
AreLevels W levels = (n : ℕ) → n < length levels → AreOf (W n) (get_or levels n [])

-- the levels of all ways by these rows: where they end there are no ways
pub record AreAll (rows : List MemberRow) (ends : ℕ → Bool) (s : ℕ) (levels : List (List (ℕ × ℕ)))
    : Type 0 where
  pub counted : AreLevels (λ n g. ways n rows ends s g) levels
  pub few : length levels ≤ length rows + 1
  pub no_more : (n g : ℕ) → length levels ≤ n → n ≤ length rows → ways n rows ends s g ≡ []
