-- Levels of groups, which fall along each edge, and what is kept beside the list of edges.
use Rattle.std.specs.Prelude.{◌≡◌, ⊤, ℕ, ◌==◌, ◌<◌, ◌^◌, List, [], ◌∷◌, Bool, true, max, unwrap_or}
use Rattle.std.specs.Prelude.{is_some, if◌then◌else◌}
use Rattle.std.specs.List.{All, AllByRecursion}
use Rattle.std.specs.Map.{lookup}
use Rattle.std.specs.BTreeMap.{is_at}
use Rattle.std.specs.Ordering.{nat_cmp}
use Rattle.std.specs.declared.cmp.Ordering.TheVariants.{Less}
use Rattle.reg_graph.specs.Sets.{pair_cmp}
use Rattle.reg_graph.specs.Edges.{has_edge}

-- the level of a group, by the levels that are written down: half of 2^64 where none is
abbrev pub level_of : List (ℕ × ℕ) → ℕ → ℕ
level_of levels x = unwrap_or (lookup (is_at (nat_cmp x)) levels) 9223372036854775808

-- whether a level of the group is written down
abbrev pub has_level : List (ℕ × ℕ) → ℕ → Bool
has_level levels x = is_some (lookup (is_at (nat_cmp x)) levels)

-- the level falls along each edge, and each group that depends on another has a level written down
pub record IsLevelled (es : List (ℕ × ℕ)) (levels : List (ℕ × ℕ)) : Type 0 where
  pub falls : (x y : ℕ) → has_edge es x y ≡ true → level_of levels y < level_of levels x
  pub written : (x y : ℕ) → has_edge es x y ≡ true → has_level levels x ≡ true

-- the edge of a key (to, from, number)
abbrev pub edge_of : ℕ × ℕ × ℕ → ℕ × ℕ
edge_of key = (key.1, key.0)

-- each key has a number below the next one
pub record IsNumbered (keys : List (ℕ × ℕ × ℕ)) (next : ℕ) : Type 0 where
  pub each : All (λ (k : ℕ × ℕ × ℕ). (k.1 < 2 ^ 32) × (k.2 < next)) keys
  pub small : next < 2 ^ 64

-- the greatest level that a plan of pairs (group, level) has for a group, or 0
abbrev pub planned : List (ℕ × ℕ) → ℕ → ℕ
planned [] q = 0
planned (e ∷ es) q = max (if e.0 == q then e.1 else 0) (planned es q)

-- the level of a group after a plan, by the levels before it
abbrev pub target : (ℕ → ℕ) → List (ℕ × ℕ) → ℕ → ℕ
target level plan q = max (level q) (planned plan q)

-- the groups of a plan stand in the order of their levels and numbers
abbrev pub IsRising : (ℕ → ℕ) → List (ℕ × ℕ) → Type 0
IsRising level [] = ⊤
IsRising level (e ∷ es) =
    AllByRecursion (λ (f : ℕ × ℕ). pair_cmp (level e.0, e.0) (level f.0, f.0) ≡ Less) es
    × IsRising level es

-- the level that a group that waits at its level l shall have, or 0
abbrev pub wanted : List ((ℕ × ℕ) × ℕ) → ℕ → ℕ → ℕ
wanted pending l q = unwrap_or (lookup (is_at (pair_cmp (l, q))) pending) 0

-- whether a group waits at its level l
abbrev pub awaits : List ((ℕ × ℕ) × ℕ) → ℕ → ℕ → Bool
awaits pending l q = is_some (lookup (is_at (pair_cmp (l, q))) pending)
