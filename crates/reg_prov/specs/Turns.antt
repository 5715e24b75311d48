-- The turns of a batch: at which boundaries which pairs come into what is wanted, or leave it.
use Rattle.std.specs.Prelude.{◌≡◌, ◌≤◌, ℕ, ◌==◌, ◌&&◌, List, [], ◌∷◌, Bool, true, false}
use Rattle.std.specs.Prelude.{Option, Some, None, nat_lt, nat_le, if◌then◌else◌}
use Rattle.std.specs.List.Sorted.{IsStrictlySortedBy}
use Rattle.std.specs.Ordering.{nat_cmp, ordering_then}
use Rattle.std.specs.declared.cmp.Ordering.{Ordering}
use Rattle.reg_prov.specs.declared.target.TargetOp.{TargetOp}
use Rattle.reg_prov.specs.declared.target.TargetOp.TheVariants.{Add, Remove}
use Rattle.reg_prov.specs.declared.turn.Turn.{Turn}
use Rattle.reg_prov.specs.Boundaries.{is_boundary, boundary_before, moment_at}

-- whether a wish holds, where there is a moment
abbrev pub held : (ℕ → Bool) → Option ℕ → Bool
held wish None = false
held wish (Some moment) = wish moment

-- what is wanted at a boundary: what is wanted at its moment, and at 0 nothing
abbrev pub wanted_at : (ℕ → ℕ → ℕ → Bool) → List ℕ → ℕ → ℕ → ℕ → Bool
wanted_at want moments n g s = held (λ moment. want moment g s) (moment_at moments n)

-- what becomes of a wish from one boundary to the next: it comes, it goes, or it stays as it is
abbrev pub change : Bool → Bool → Option Bool
change false false = None
change false true = Some true
change true false = Some false
change true true = None

-- by boundary, then by group, and then by person
abbrev pub turn_cmp : Turn → Turn → Ordering
turn_cmp a b =
    ordering_then (ordering_then (nat_cmp a.at b.at) (nat_cmp a.group b.group))
    (nat_cmp a.subject b.subject)

-- what a pair turns to at a number, if it is among the turns
abbrev pub turn_at : List Turn → ℕ → ℕ → ℕ → Option Bool
turn_at [] n g s = None
turn_at (turn ∷ turns) n g s =
    if (turn.at == n) && ((turn.group == g) && (turn.subject == s)) then Some turn.on
    else turn_at turns n g s

-- what becomes of a pair at a number: at a boundary behind the start and up to the last one it may
-- turn, at any other number it doesn't
abbrev pub due_at : (ℕ → ℕ → ℕ → Bool) → List ℕ → ℕ → ℕ → ℕ → ℕ → ℕ → Option Bool
due_at wish moments start last n g s =
    if is_boundary moments n && (nat_lt start n && nat_le n last)
    then change (wish (boundary_before moments n) g s) (wish n g s) else None

-- the turns of a batch, in order: one for each pair and boundary where the wish is another one than
-- at the boundary before
pub record AreTurns (wish : ℕ → ℕ → ℕ → Bool) (moments : List ℕ) (start last : ℕ)
    (turns : List Turn) : Type 0 where
  pub ordered : IsStrictlySortedBy turn_cmp turns
  pub each : (n g s : ℕ) → turn_at turns n g s ≡ due_at wish moments start last n g s

-- the operation of a turn
abbrev pub op_of : Turn → TargetOp
op_of turn = if turn.on then Add turn.group turn.subject else Remove turn.group turn.subject

-- a target is between: each pair is in it or not as is wished at some boundary of the batch
abbrev pub IsBetween : (ℕ → ℕ → ℕ → Bool) → List ℕ → ℕ → ℕ → (ℕ → ℕ → Bool) → Type 0
IsBetween wish moments start last target =
    (g s : ℕ) → (n : ℕ) × (is_boundary moments n ≡ true) × (start ≤ n) × (n ≤ last)
    × (target g s ≡ wish n g s)
