-- What the service of a connection keeps, and what a stop leaves of it.
use Rattle.std.specs.Prelude.{◌≡◌, ℕ, List, Option}
use Rattle.reg_terms.specs.declared.command.Stamped.{Stamped}
use Rattle.reg_keep.specs.declared.keeper.Keeper.{Ghosts}
use Rattle.reg_service.specs.Kept.{KeptOn, Halted, RoseAt}
use Rattle.reg_service.specs.declared.service.Next.{Next}
use Rattle.reg_service.specs.declared.service.Next.TheVariants as next
use Rattle.reg_session.specs.Answered.{Point}
use Rattle.reg_http.specs.Turns.{Reading}
use Rattle.reg_http.specs.declared.call.Turn.{Turn}
use Rattle.reg_serve.specs.Answered.{Outcome, goes, stops}
use Rattle.reg_serve.specs.Sessions.{Session, TurnFails, EndsTurn, EndsTurns}
use Rattle.reg_serve.specs.declared.ended.Ended.{Ended}
use Rattle.reg_serve.specs.declared.ended.Ended.TheVariants as ended

-- What is left of a service from this history and keeper on: it goes on in that state, and the
-- history went on in its keeper by the commands that were accepted; or it stopped for that cause,
-- all up to the last history was answered, and the keeper may have the outcome's.
abbrev pub IsLeft : {K : Type 0} → Ghosts K → List Stamped → K → (answered : List Stamped) → Outcome
    → Next K → Type 0
IsLeft g before old answered (goes s) (next.Go service) =
    (service.state ≡ s) × KeptOn g before old s.history service.keeper
IsLeft g before old answered (goes s) (next.Stop why keeper) = ⊥
IsLeft g before old answered (stops why after) (next.Go service) = ⊥
IsLeft g before old answered (stops why after) (next.Stop cause keeper) =
    (cause ≡ why) × ((h : Halted g before old keeper) × (h.answered ≡ answered) × (h.after ≡ after))
    × RoseAt cause (g.keep_faults old) (g.keep_faults keeper)

-- a session of a service over this keeper, and what is left of it
pub record SessionOf {K : Type 0} (g : Ghosts K) (before : Point) (keeper : K)
    (left now written moments : Option (List ℕ)) (e : Ended × Next K) : Type 0 where
  pub to : Outcome
  pub session : Session before left now written moments e.0 to
  pub leaves : IsLeft g before.state.history keeper session.last.state.history to e.1

-- and where no more bytes came, these were read and are no whole message
abbrev pub SessionRests : {K : Type 0} → Ghosts K → Point → K
    → (left now written moments : Option (List ℕ)) → (unfinished : List ℕ) → Ended × Next K → Type 0
SessionRests g before keeper left now written moments unfinished e =
    (l : SessionOf g before keeper left now written moments e)
    × (e.0 ≡ ended.Silent → l.session.reading.rest ≡ unfinished)

-- a turn of the reader at which a connection ended, and what is left
pub record TurnLeaves {K : Type 0} (g : Ghosts K) (p : Point) (keeper : K) (t : Turn)
    (written moments : Option (List ℕ)) (e : Ended × Next K) : Type 0 where
  pub to : Outcome
  pub ends : TurnFails p t written moments e.0 to
  pub leaves : IsLeft g p.state.history keeper p.state.history to e.1

-- the same of what was read
abbrev pub ReadLeaves : {K : Type 0} → Ghosts K → Point → K → Reading
    → (written moments : Option (List ℕ)) → Ended × Next K → Type 0
ReadLeaves g p keeper reading w ms e =
    (to : Outcome) × EndsTurn p reading w ms e.0 to
    × IsLeft g p.state.history keeper p.state.history to e.1

-- and after messages that were answered
pub record EndsTurnsOf {K : Type 0} (g : Ghosts K) (before : Point) (keeper : K) (old : Reading)
    (written moments : Option (List ℕ)) (e : Ended × Next K) : Type 0 where
  pub to : Outcome
  pub turns : EndsTurns before old written moments e.0 to
  pub leaves : IsLeft g before.state.history keeper turns.last.state.history to e.1
