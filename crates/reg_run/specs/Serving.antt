-- What `serve` did: which turns connections had, and what is kept of what they asked.
use Rattle.std.specs.Prelude.{◌≡◌, ◌⊎◌, ◌≤◌, ◌++◌, ℕ, List, [], All, Option, Some, Ok, length}
use Rattle.std.specs.Prelude.{take, IfSome}
use Rattle.reg_outside.specs.Connections.{Connections}
use Rattle.reg_outside.specs.Faults.{Rose}
use Rattle.reg_terms.specs.declared.command.Stamped.{Stamped}
use Rattle.reg_machine.specs.History.{State}
use Rattle.reg_service.specs.Opening.{at_last}
use Rattle.reg_serve.specs.KeepingUp.{IsResponse, output_seen}
use Rattle.reg_serve.specs.Visits.{CeasesAt, ServesVisits, Visit, Visits}
use Rattle.reg_serve.specs.declared.ended.Ceased.{Ceased}
use Rattle.reg_serve.specs.declared.ended.Ceased.TheVariants as ceased
use Rattle.reg_run.specs.Crash.{Seen, OpensTo, DiskSurvives}
use Rattle.reg_run.specs.KeepsUp.{KeepsUp}
use Rattle.reg_run.specs.Status.{status_of}
use Rattle.reg_run.specs.World.{World, SameInput, SameOutput}
use Rattle.reg_run.specs.declared.status.End.{End}
use Rattle.reg_run.specs.declared.status.End.TheVariants as the_end

-- Turns of connections of this port were had, as many as were asked for or all that were to come,
-- and these commands accepted; the file opens to the last history, and no call of the listener
-- failed.
pub record ServedAll (from : State) (port limit : ℕ) (before after : World)
    (accepted : List Stamped) : Type 0 where
  pub last : State
  pub listens : after.net.port ≡ Some port
  pub served : ServesVisits limit from before.moments before.net.connections after.net.connections
      last after.moments
  pub grown : last.history ≡ from.history ++ accepted
  pub opens : OpensTo after.held (Ok (at_last last.history))
  pub still : after.net.net_faults ≡ before.net.net_faults

-- Serving ceased for this cause, before the first turn or after some of this port: up to the first
-- history all was answered, and what may be kept is the second.
pub record ServedSome (from : State) (port limit : ℕ) (before after : World)
    (answered kept : List Stamped) (why : Ceased) : Type 0 where
  pub visits : List Visit
  pub listens : (visits ≡ []) ⊎ (after.net.port ≡ Some port)
  pub told : Visits before.net.connections after.net.connections visits
  pub few : length visits ≤ limit
  pub ends : CeasesAt from before.moments visits after.moments answered kept why

-- how `serve` ends: with its cause, and which turns were had
abbrev pub ServeEnds : End → State → (port limit : ℕ) → World → World
    → (accepted answered : List Stamped) → Type 0
ServeEnds the_end.Done from port limit before after accepted answered =
    ServedAll from port limit before after accepted
ServeEnds the_end.Usage from port limit before after accepted answered = ⊥
ServeEnds the_end.Memory from port limit before after accepted answered =
    ServedSome from port limit before after answered (from.history ++ accepted) ceased.Memory
ServeEnds the_end.Disk from port limit before after accepted answered =
    Rose before.faults after.faults
    × ServedSome from port limit before after answered (from.history ++ accepted) ceased.Disk
ServeEnds the_end.Input from port limit before after accepted answered = ⊥
ServeEnds the_end.Output from port limit before after accepted answered = ⊥
ServeEnds (the_end.Damaged at) from port limit before after accepted answered = ⊥
ServeEnds the_end.Listener from port limit before after accepted answered =
    Rose before.net.net_faults after.net.net_faults
    × ServedSome from port limit before after answered (from.history ++ accepted) ceased.Listener
ServeEnds the_end.TooMuch from port limit before after accepted answered = ⊥
ServeEnds the_end.Exists from port limit before after accepted answered = ⊥
ServeEnds the_end.Refused from port limit before after accepted answered = ⊥
ServeEnds the_end.OtherFormat from port limit before after accepted answered = ⊥

-- What was written in each turn keeps up with the disk, where the disk tells its bytes.
abbrev pub ConnectionsKeepUp : Seen → List Stamped → (old new : Option Connections) → Type 0
ConnectionsKeepUp d history old new = IfSome d.held (λ file. (visits : List Visit)
    × Visits old new visits
    × All (λ (v : Visit). KeepsUp d history IsResponse (output_seen v.came) (output_seen v.back))
    visits)

-- `serve` from the state that the file opened to: the commands that were accepted and how many of
-- them were answered, how it ended, what it leaves of the disk, and that each response came behind
-- what the disk has. Nothing is read or written but the connections.
pub record DidServe (d : Seen) (port limit : ℕ) (end : End) (before after : World)
    (from : State) : Type 0 where
  pub accepted : List Stamped
  pub answered : ℕ
  pub ends : ServeEnds end from port limit before after accepted (from.history
      ++ take answered accepted)
  pub input : SameInput before after
  pub output : SameOutput before after
  pub disk : DiskSurvives 1 d from.history accepted answered (status_of end)
  pub keeps_up : ConnectionsKeepUp d (from.history ++ accepted) before.net.connections
      after.net.connections

-- why serving ceased, as a run's end
abbrev pub end_of_serve : Ceased → End
end_of_serve ceased.Listener = the_end.Listener
end_of_serve ceased.Memory = the_end.Memory
end_of_serve ceased.Disk = the_end.Disk
