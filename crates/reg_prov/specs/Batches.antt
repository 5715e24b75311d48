-- A batch: which operations a target has to follow, from a place in the log on.
use Rattle.std.specs.Prelude.{◌≡◌, ℕ, List, Bool, map}
use Rattle.reg_prov.specs.declared.target.TargetOp.{TargetOp}
use Rattle.reg_prov.specs.declared.turn.Turn.{Turn}
use Rattle.reg_prov.specs.Boundaries.{batch_end, start_of}
use Rattle.reg_prov.specs.Turns.{AreTurns, op_of, wanted_at}

-- the operations from a place on of what is wanted at each moment, in the log whose entries have
-- these moments, and where they end
pub record IsBatchOf (want : ℕ → ℕ → ℕ → Bool) (moments : List ℕ) (clock place most : ℕ)
    (ops : List TargetOp) (end : ℕ) : Type 0 where
  pub ends : end ≡ batch_end moments clock place most
  pub turned : (turns : List Turn)
      × AreTurns (wanted_at want moments) moments (start_of moments place) end turns
      × (ops ≡ map op_of turns)
