-- Where the commands of callers' keys are among those that are kept.
use Rattle.std.specs.Prelude.{◌≡◌, ◌<◌, ℕ, Bool, false, ◌&&◌, if◌then◌else◌}
use Rattle.std.specs.Prelude.{List, Option, None, Some, Vec, slice_get}
use Rattle.std.specs.Ordering.{nat_cmp}
use Rattle.std.specs.Cmp.Lexicographic.{slice_cmp}
use Rattle.std.specs.BTreeMap.{BTreeMap, get, get_by}
use Rattle.std.specs.Str.{bytes_eq}
use Rattle.reg_keys.specs.declared.digest.Digest.{Digest}
use Rattle.reg_keys.specs.declared.places.Places.{Places}
use Rattle.reg_keys.specs.Digests.{digest, digest_cmp}
use Rattle.reg_keys.specs.Kept.{Kept}

-- what a map has under these bytes
abbrev pub at_key : {X Z : Type 0} → BTreeMap (Vec ℕ Z) X → List ℕ → Option X
at_key map key = get_by (λ k. slice_cmp nat_cmp key k.items) map

-- the place of a key of what may be one caller's
abbrev pub key_in : {Z : Type 0} → Option (BTreeMap (Vec ℕ Z) ℕ) → List ℕ → Option ℕ
key_in None key = None
key_in (Some keys) key = at_key keys key

-- the place of a caller's key that is found by its text
abbrev pub other_in : {Y Z : Type 0} → BTreeMap (Vec ℕ Y) (BTreeMap (Vec ℕ Z) ℕ)
    → List ℕ → List ℕ → Option ℕ
other_in callers by key = key_in (at_key callers by) key

-- whether a command is of this caller's key
abbrev pub is_of : Option Kept → List ℕ → List ℕ → Bool
is_of None by key = false
is_of (Some one) by key = bytes_eq one.by by && bytes_eq one.key key

-- whether the command at a place is
abbrev pub stands_at : List Kept → ℕ → List ℕ → List ℕ → Bool
stands_at all place by key = is_of (slice_get all place) by key

-- the place that is the first of its digest where it is of the key, else what is elsewhere
abbrev pub first_or : (ℕ → Bool) → Option ℕ → Option ℕ → Option ℕ
first_or is_right None elsewhere = elsewhere
first_or is_right (Some place) elsewhere = if is_right place then Some place else elsewhere

-- the place of a caller's key
abbrev pub place_in : Places → List Kept → List ℕ → List ℕ → Option ℕ
place_in places all by key = first_or (λ place. stands_at all place by key)
    (get digest_cmp places.firsts (digest by key)) (other_in places.others by key)

-- each place is below a number
pub record AreBelow (n : ℕ) (places : Places) : Type 0 where
  pub firsts : (d : Digest) (place : ℕ) → get digest_cmp places.firsts d ≡ Some place → place < n
  pub others : (by key : List ℕ) (place : ℕ) → other_in places.others by key ≡ Some place
      → place < n
