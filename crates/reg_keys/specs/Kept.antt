-- A command that is kept.
use mathlib.Core.HLevel.{×_prop}
use native.Mathlib.Bridge.{le_prop}
use Rattle.std.specs.Prelude.{ℕ, ◌+◌, ◌≤◌, List, [], ◌∷◌, length, take, drop, Option}
use Rattle.reg_keys.specs.declared.records.Entry.{Entry}

-- a command that is kept: the caller and the key that it stands under, its number, the id of what
-- it made, and its bytes
pub record Kept : Type 0 where
  pub by : List ℕ
  pub key : List ℕ
  pub number : ℕ
  pub id : Option ℕ
  pub bytes : List ℕ

abbrev pub as_kept : List ℕ → List ℕ → ℕ → Option ℕ → List ℕ → Kept
as_kept by key number id bytes =
    record { by = by; key = key; number = number; id = id; bytes = bytes }

-- where the texts of an entry end
abbrev pub end_of : Entry → ℕ
end_of e = e.start + e.by_len + e.key_len + e.len

-- the texts of one entry lie behind those of another, from a place on and up to an end
abbrev pub LieFrom : ℕ → List Entry → ℕ → Type 0
LieFrom start [] end = start ≤ end
LieFrom start (e ∷ es) end = (start ≤ e.start) × LieFrom (end_of e) es end

-- there is one proof of it at most
LieFrom-prop : (start : ℕ) (es : List Entry) (end : ℕ) → IsProp (LieFrom start es end)
LieFrom-prop start [] end = le_prop
LieFrom-prop start (e ∷ es) end = ×_prop le_prop (LieFrom-prop (end_of e) es end)

-- so they lie in these bytes
abbrev pub LieIn : List ℕ → List Entry → Type 0
LieIn bytes es = LieFrom 0 es (length bytes)

pub LieIn-prop : (bytes : List ℕ) (es : List Entry) → IsProp (LieIn bytes es)
LieIn-prop bytes es = LieFrom-prop 0 es (length bytes)

-- what is kept by an entry whose texts stand among these bytes
abbrev pub kept_by : List ℕ → Entry → Kept
kept_by bytes e = as_kept (take e.by_len (drop e.start bytes))
    (take e.key_len (drop e.by_len (drop e.start bytes))) e.number e.id
    (take e.len (drop e.key_len (drop e.by_len (drop e.start bytes))))
