-- What is printed of attestations.
use Rattle.std.specs.Prelude.{◌≡◌, ℕ, List, Option, Result}
use Rattle.reg_terms.specs.declared.refusal.Refusal.{Refusal}
use Rattle.reg_machine.specs.History.{State, now_facts}
use Rattle.reg_access.specs.Groups.{attested_at}
use Rattle.reg_access.specs.States.{AreStates}
use Rattle.reg_access.specs.declared.state.State as attest
use Rattle.reg_access.specs.declared.state.StateKind.{StateKind}
use Rattle.reg_report.specs.Asked.{attestation_asked, attested_asked}
use Rattle.reg_report.specs.Lines.{attestation_data, attested_data, line}
use Rattle.reg_report.specs.Printed.{Printed}

-- the state of a group's attestation at a moment
abbrev pub state_then : State → ℕ → ℕ → attest.State
state_then s group t = attested_at s.history s.clock group t

-- what is told of the state of a group's attestation, now or at a moment
abbrev pub AttestedTold : State → List ℕ → Option (List ℕ) → Result (List ℕ) Refusal → Type 0
AttestedTold s group at told =
    Printed (attested_asked group at s.clock (now_facts s))
    (λ (asked : ℕ × ℕ) bytes. bytes ≡ line (attested_data (state_then s asked.0 asked.1))) told

-- these bytes are the line of all states of a group's attestation up to now
pub record IsAttestationLine (s : State) (group : ℕ) (bytes : List ℕ) : Type 0 where
  pub states : List (ℕ × StateKind)
  pub those : AreStates (λ t. (state_then s group t).kind) s.clock states
  pub prints : bytes ≡ line (attestation_data states)

-- what is told of a group's attestation from the beginning on
abbrev pub AttestationTold : State → List ℕ → Result (List ℕ) Refusal → Type 0
AttestationTold s group told =
    Printed (attestation_asked group (now_facts s)) (IsAttestationLine s) told
