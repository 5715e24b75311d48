-- The registry as it was at a moment.
use Rattle.std.specs.Prelude.{ℕ, List, Bool, true, Option, Some, None, nat_le}
use Rattle.reg_terms.specs.declared.command.Stamped.{Stamped}
use Rattle.reg_machine.specs.History.{State, up_to}
use Rattle.reg_wire.specs.Payload.{stamped_of}

-- the registry of a history as it was at a moment: the commands up to then, and the clock there
abbrev pub state_at : List Stamped → ℕ → State
state_at history t = record { history = up_to t history; clock = t }

-- ---- for private clauses

-- whether what a payload is read as acts by a moment; what is no command does
abbrev pub acts_by : ℕ → Option Stamped → Bool
acts_by t None = true
acts_by t (Some s) = nat_le s.at t

-- whether a record's command acts by a moment
abbrev pub is_by : ℕ → ℕ × List ℕ → Bool
is_by t r = acts_by t (stamped_of r.1)
