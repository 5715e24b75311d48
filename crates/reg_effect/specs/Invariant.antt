-- What is kept beside live data.
use Rattle.std.specs.Prelude.{◌≡◌, ℕ, ◌+◌, ◌==◌, ◌&&◌, List, [], ◌∷◌, if◌then◌else◌}
use Rattle.reg_graph.specs.Sets.{holds}
use Rattle.reg_graph.specs.Edges.{IsAcyclic}
use Rattle.reg_effect.specs.declared.live.Live.{Live}
use Rattle.reg_effect.specs.Member.{member}
use Rattle.reg_effect.specs.Edges.{edges}
use Rattle.reg_effect.specs.Asked.{IsWell}

-- how often an edge stands in a list
abbrev pub copies : ℕ → ℕ → List (ℕ × ℕ) → ℕ
copies a b [] = 0
copies a b (e ∷ es) = (if (e.0 == a) && (e.1 == b) then 1 else 0) + copies a b es

-- the graph has the edges of live data, each as often as it stands there
abbrev pub IsCounted : Live → List (ℕ × ℕ) → Type 0
IsCounted L graph = (a b : ℕ) → copies a b graph ≡ copies a b (edges L)

-- the pairs are the effective memberships of live data without a circle
pub record IsTable (L : Live) (pairs : List (ℕ × ℕ)) : Type 0 where
  pub sets : (y q : ℕ) → holds y q pairs ≡ member L y q
  pub no_circle : IsAcyclic (edges L)
  pub well : IsWell L

-- and beside them stands the graph
pub record IsKept (L : Live) (pairs : List (ℕ × ℕ)) (graph : List (ℕ × ℕ)) : Type 0 where
  pub table : IsTable L pairs
  pub counted : IsCounted L graph
