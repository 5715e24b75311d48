-- A list of edges, each from a group to a group that it depends on: paths, circles and topological
-- order. An edge may stand several times.
use Rattle.std.specs.Prelude.{◌≡◌, ⊤, ℕ, ◌==◌, ◌&&◌, ◌||◌, List, [], ◌∷◌, Bool, true, false}
use Rattle.std.specs.List.{list_any, AllByRecursion}
use Rattle.reg_graph.specs.declared.dag.EdgeFault.{EdgeFault}
use Rattle.reg_graph.specs.declared.dag.EdgeFault.TheVariants.{Circular, NoMemory}

-- whether an edge goes from a to b
abbrev pub has_edge : List (ℕ × ℕ) → ℕ → ℕ → Bool
has_edge es a b = list_any (λ (e : ℕ × ℕ). (e.0 == a) && (e.1 == b)) es

-- whether an edge goes to the group
abbrev pub is_needed : List (ℕ × ℕ) → ℕ → Bool
is_needed es b = list_any (λ (e : ℕ × ℕ). e.1 == b) es

-- whether a is b or depends on it: along the later edges alone, or by way of the first edge
unfoldable pub reaches : List (ℕ × ℕ) → ℕ → ℕ → Bool
reaches [] a b = a == b
reaches (e ∷ es) a b = reaches es a b || (reaches es a e.0 && reaches es e.1 b)

-- the groups stand behind one another on a path from a to b
abbrev pub IsWay : List (ℕ × ℕ) → ℕ → List ℕ → ℕ → Type 0
IsWay es a [] b = a ≡ b
IsWay es a (x ∷ xs) b = (has_edge es a x ≡ true) × IsWay es x xs b

-- a path of no, one or more edges leads from a to b
abbrev pub HasPath : List (ℕ × ℕ) → ℕ → ℕ → Type 0
HasPath es a b = (way : List ℕ) × IsWay es a way b

-- no path leads back to where an edge comes from
abbrev pub IsAcyclic : List (ℕ × ℕ) → Type 0
IsAcyclic es = (a b : ℕ) → has_edge es a b ≡ true → reaches es b a ≡ false

-- whether the group is listed
abbrev pub among : ℕ → List ℕ → Bool
among q xs = list_any (λ x. x == q) xs

-- each group stands once, and before the later ones that depend on it
abbrev pub InputsFirst : List (ℕ × ℕ) → List ℕ → Type 0
InputsFirst es [] = ⊤
InputsFirst es (x ∷ xs) =
    (among x xs ≡ false) × AllByRecursion (λ y. has_edge es x y ≡ false) xs × InputsFirst es xs

-- the group and all that depend on it, each once, inputs first
pub record IsAbove (es : List (ℕ × ℕ)) (g : ℕ) (xs : List ℕ) : Type 0 where
  pub each : (x : ℕ) → among x xs ≡ reaches es x g
  pub inputs_first : InputsFirst es xs

-- what stands when an edge from a to b is refused: Circular names b, which is a or depends on it
abbrev pub IsRefused : List (ℕ × ℕ) → ℕ → ℕ → EdgeFault → Type 0
IsRefused es a b (Circular g) = (g ≡ b) × (reaches es b a ≡ true)
IsRefused es a b NoMemory = ⊤
