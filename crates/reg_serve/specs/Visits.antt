-- Connections, one after another.
use Rattle.std.specs.Prelude.{◌≡◌, ◌⊎◌, ◌≤◌, ◌++◌, ◌∷◌, ℕ, List, [], length, Option, Some, None}
use Rattle.std.specs.Prelude.{option_map, All, Bool, IfSome, true}
use Rattle.reg_outside.specs.Connections.{Connections, HasTurn, Seen, back_of, gives_back}
use Rattle.reg_outside.specs.Connections.{next_turn}
use Rattle.reg_outside.specs.Faults.{Rose}
use Rattle.reg_terms.specs.declared.command.Stamped.{Stamped}
use Rattle.reg_machine.specs.History.{State}
use Rattle.reg_keep.specs.declared.keeper.Keeper.{Ghosts}
use Rattle.reg_service.specs.Kept.{Halted}
use Rattle.reg_service.specs.declared.service.Cause.{Cause}
use Rattle.reg_service.specs.declared.service.Cause.TheVariants as cause
use Rattle.reg_service.specs.declared.service.Next.{Next}
use Rattle.reg_serve.specs.Answered.{Outcome, goes, stops}
use Rattle.reg_serve.specs.Keeping.{IsLeft}
use Rattle.reg_serve.specs.Sessions.{Session}
use Rattle.reg_serve.specs.declared.ended.Ceased.{Ceased}
use Rattle.reg_serve.specs.declared.ended.Ceased.TheVariants as ceased
use Rattle.reg_serve.specs.declared.ended.Ended.{Ended}
use Rattle.reg_serve.specs.declared.ended.Ended.TheVariants as ended

-- A turn of a connection: the connection's number, how it came and how it was given back, what was
-- read of it last and is no whole message, where it may have another turn, and whether the call
-- succeeded by which it was given back.
pub record Visit : Type 0 where
  pub number : ℕ
  pub came : Seen
  pub back : Seen
  pub unfinished : Option (List ℕ)
  pub is_taken : Bool

-- The next turn that was to come was had, and the connection given back.
pub record HadTurn (v : Visit) (old new : Connections) : Type 0 where
  pub out : Connections
  pub had : HasTurn (next_turn old.given_back old.coming) v.number v.came old out
  pub back : new ≡ gives_back (back_of v.number v.back v.unfinished) out

-- these turns were had, one after another
abbrev pub Visited : Connections → Connections → List Visit → Type 0
Visited old new [] = new ≡ old
Visited old new (v ∷ visits) = (mid : Connections) × HadTurn v old mid × Visited mid new visits

-- the same where the listener tells its connections; what isn't told stays untold
abbrev pub Visits : Option Connections → Option Connections → List Visit → Type 0
Visits None None visits = Unit {0}
Visits None (Some new) visits = ⊥
Visits (Some old) None visits = ⊥
Visits (Some old) (Some new) visits = Visited old new visits

-- no turn is to come
abbrev pub NoneComes : Option Connections → Type 0
NoneComes told = IfSome told (λ (c : Connections). next_turn c.given_back c.coming ≡ [])

-- One visit was a session with this end, which left the registry so. Where a call of the connection
-- failed, a count of it rose. It may have another turn just where no more bytes came, and the
-- listener has taken it back.
pub record IsVisit (s : State) (moments : Option (List ℕ)) (v : Visit) (e : Ended) (to : Outcome)
    (later : Option (List ℕ)) : Type 0 where
  pub session : Session (record {
    written = v.came.written;
    moments = moments;
    state = s;
  }) v.came.left v.back.left v.back.written later e to
  pub failed : e ≡ ended.Failed
      → Rose v.came.read_faults v.back.read_faults ⊎ Rose v.came.write_faults v.back.write_faults
  pub open_still : IfSome v.unfinished (λ bytes. (e ≡ ended.Silent)
      × (session.reading.rest ≡ bytes))
  pub kept : v.is_taken ≡ true → e ≡ ended.Silent
      → v.unfinished ≡ Some session.reading.rest

-- These visits were sessions, one after another, after each of which the service went on: from this
-- state and these moments to come to those.
abbrev pub Sessions : State → Option (List ℕ) → List Visit → State → Option (List ℕ) → Type 0
Sessions s moments [] last later = (last ≡ s) × (later ≡ moments)
Sessions s moments (v ∷ visits) last later =
    (e : Ended) × (mid : State) × (between : Option (List ℕ))
    × IsVisit s moments v e (goes mid) between × Sessions mid between visits last later

-- the listener has taken the connection back
abbrev pub IsTaken : Visit → Type 0
IsTaken v = v.is_taken ≡ true

-- At most so many turns were had, which led to that state: as many, or all that were to come. Each
-- connection was taken back.
pub record ServesVisits (limit : ℕ) (s : State) (moments : Option (List ℕ))
    (old new : Option Connections) (last : State) (later : Option (List ℕ)) : Type 0 where
  pub visits : List Visit
  pub told : Visits old new visits
  pub few : length visits ≤ limit
  pub done : (length visits ≡ limit) ⊎ NoneComes new
  pub sessions : Sessions s moments visits last later
  pub taken : All IsTaken visits

-- all visits were sessions after which the service went on, and all that was answered is kept
abbrev pub AllServed : State → Option (List ℕ) → List Visit → Option (List ℕ)
    → (answered after : List Stamped) → Type 0
AllServed s moments visits later answered after =
    (last : State) × Sessions s moments visits last later × (answered ≡ last.history)
    × (after ≡ last.history)

-- All but the last were, and at the last the service stopped for this cause: so far all was
-- answered, and this may be kept.
pub record StopsAtLast (s : State) (moments : Option (List ℕ)) (visits : List Visit)
    (later : Option (List ℕ)) (answered after : List Stamped) (why : Cause) : Type 0 where
  pub earlier : List Visit
  pub visit : Visit
  pub cut : visits ≡ earlier ++ visit ∷ []
  pub mid : State
  pub between : Option (List ℕ)
  pub sessions : Sessions s moments earlier mid between
  pub end : Ended
  pub last : IsVisit mid between visit end (stops why after) later
  pub done : answered ≡ last.session.last.state.history

-- Why no more were served. A call of the listener failed, between two connections or after the
-- last; or there was no memory before the first; or the service stopped at the last.
abbrev pub CeasesAt : State → Option (List ℕ) → List Visit → Option (List ℕ)
    → (answered after : List Stamped) → Ceased → Type 0
CeasesAt s moments visits later answered after ceased.Listener =
    AllServed s moments visits later answered after
CeasesAt s moments visits later answered after ceased.Memory =
    ((visits ≡ []) × AllServed s moments visits later answered after)
    ⊎ StopsAtLast s moments visits later answered after cause.Memory
CeasesAt s moments visits later answered after ceased.Disk =
    StopsAtLast s moments visits later answered after cause.Disk

-- serving ceased before all was served: the connections given back, and what the keeper has
pub record CeasesServing {K : Type 0} (g : Ghosts K) (limit : ℕ) (s : State) (old_keeper : K)
    (moments : Option (List ℕ)) (old new : Option Connections) (later : Option (List ℕ))
    (why : Ceased) (keeper : K) : Type 0 where
  pub visits : List Visit
  pub told : Visits old new visits
  pub few : length visits ≤ limit
  pub halted : Halted g s.history old_keeper keeper
  pub ends : CeasesAt s moments visits later halted.answered halted.after why

-- a service's cause as that of its listener's end
abbrev pub ceased_of : Cause → Ceased
ceased_of cause.Memory = ceased.Memory
ceased_of cause.Disk = ceased.Disk

-- so many turns were had, which led to that state; and all connections taken back, if that is so
pub record ServedSo (is_taken : Bool) (count : ℕ) (s : State) (moments : Option (List ℕ))
    (old new : Option Connections) (last : State) (later : Option (List ℕ)) : Type 0 where
  pub visits : List Visit
  pub told : Visits old new visits
  pub counted : length visits ≡ count
  pub sessions : Sessions s moments visits last later
  pub taken : is_taken ≡ true → All IsTaken visits

-- an accepted connection was served and given back, and this is left of the service
pub record GivesBack {K : Type 0} (g : Ghosts K) (s : State) (keeper : K)
    (moments : Option (List ℕ)) (number : ℕ) (came : Seen) (is_taken : Bool)
    (old new : Option Connections) (later : Option (List ℕ)) (n : Next K) : Type 0 where
  pub back : Seen
  pub unfinished : Option (List ℕ)
  pub told : new ≡ option_map (gives_back (back_of number back unfinished)) old
  pub end : Ended
  pub to : Outcome
  pub is : IsVisit s moments (record {
    number = number;
    came = came;
    back = back;
    unfinished = unfinished;
    is_taken = is_taken;
  }) end to later
  pub leaves : IsLeft g s.history keeper is.session.last.state.history to n

-- why no more were served, from one connection to the next: the same, but for want of memory before
-- the first
abbrev pub BreaksAt : State → Option (List ℕ) → List Visit → Option (List ℕ)
    → (answered after : List Stamped) → Ceased → Type 0
BreaksAt s moments visits later answered after ceased.Listener =
    AllServed s moments visits later answered after
BreaksAt s moments visits later answered after ceased.Memory =
    StopsAtLast s moments visits later answered after cause.Memory
BreaksAt s moments visits later answered after ceased.Disk =
    StopsAtLast s moments visits later answered after cause.Disk

-- serving ceased at one connection, or before it
pub record CeasesNext {K : Type 0} (g : Ghosts K) (s : State) (old_keeper : K)
    (moments : Option (List ℕ)) (old new : Option Connections) (later : Option (List ℕ))
    (why : Ceased) (keeper : K) : Type 0 where
  pub visits : List Visit
  pub told : Visits old new visits
  pub few : length visits ≤ 1
  pub halted : Halted g s.history old_keeper keeper
  pub ends : BreaksAt s moments visits later halted.answered halted.after why
