-- What a keeper has after requests, and what a stop meanwhile leaves of it.
use Rattle.std.specs.Prelude.{◌≡◌, ◌⊎◌, ◌≤◌, ℕ, List, [], ◌∷◌, ◌++◌, Option, Result, Ok, IfSome}
use Rattle.std.specs.Prelude.{is_some, true, length, take}
use Rattle.reg_outside.specs.Disk.{Leaves}
use Rattle.reg_outside.specs.Faults.{Rose}
use Rattle.reg_terms.specs.declared.command.Stamped.{Stamped}
use Rattle.reg_keep.specs.declared.keeper.Keeper.{Ghosts}
use Rattle.reg_service.specs.declared.service.Next.{Next}
use Rattle.reg_service.specs.declared.service.Next.TheVariants as next
use Rattle.reg_service.specs.declared.service.Cause.{Cause}
use Rattle.reg_service.specs.declared.service.Cause.TheVariants as cause
use Rattle.reg_service.specs.KeptAt.{IsKeptAt}
use Rattle.reg_service.specs.Opening.{payloads_of, FrontsReopen}

-- the payloads of one of the histories from the first to the second, which goes on from it
abbrev pub IsBetween : List Stamped → List Stamped → Result (List (List ℕ)) ℕ → Type 0
IsBetween before after r =
    (n : ℕ) × (length before ≤ n) × (n ≤ length after) × (r ≡ Ok (payloads_of (take n after)))

-- From one moment to a later one the history went on, in the same keeper, and each stop meanwhile
-- leaves a history between the two.
pub record KeptOn {K : Type 0} (g : Ghosts K) (before : List Stamped) (old : K)
    (after : List Stamped) (new : K) : Type 0 where
  pub more : List Stamped
  pub grown : after ≡ before ++ more
  pub object : g.keep_name new ≡ g.keep_name old
  pub later : g.keep_faults old ≤ g.keep_faults new
  pub told : IfSome (g.payloads old) (λ ps. is_some (g.payloads new) ≡ true)
  pub crash : IfSome (g.payloads old)
      (λ ps. Leaves g.keep_moment g.stopped_since (IsBetween before after) old new)

-- The keeper of a service that stopped. All up to the first history was answered, and each stop
-- leaves a history from that one to the second, of which each front opens again.
abbrev pub Stopped : {K : Type 0} → Ghosts K → List Stamped → List Stamped → K → Type 0
Stopped g answered after keeper =
    FrontsReopen after × ((r : Result (List (List ℕ)) ℕ) → g.stop_leaves keeper r
    → IsBetween answered after r)

-- the history with one command more, or as it was
abbrev pub IsOneMore : List Stamped → List Stamped → Type 0
IsOneMore answered after = (after ≡ answered) ⊎ ((one : Stamped) × (after ≡ answered ++ one ∷ []))

-- the count of faults rose where the keeper failed
abbrev pub RoseAt : Cause → ℕ → ℕ → Type 0
RoseAt cause.Memory old new = Unit {0}
RoseAt cause.Disk old new = Rose old new

-- what a service that stopped for this cause may have begun to keep: for want of memory nothing
abbrev pub Began : Cause → List Stamped → List Stamped → List Stamped → Type 0
Began cause.Memory before expected after = after ≡ before
Began cause.Disk before expected after = (after ≡ before) ⊎ (after ≡ expected)

-- What is kept after a request that would lead to this history.
abbrev pub KeepsNext : {K : Type 0} (g : Ghosts K) → List Stamped → List Stamped → K → Next K
    → Type 0
KeepsNext g before expected old (next.Go s) = KeptOn g before old s.state.history s.keeper
KeepsNext g before expected old (next.Stop why keeper) =
    (after : List Stamped) × Began why before expected after × KeptOn g before old after keeper
    × IfSome (g.payloads old) (λ ps. Stopped g before after keeper)
    × RoseAt why (g.keep_faults old) (g.keep_faults keeper)

-- The keeper of a service that stopped on the way from this history on: the history that was
-- answered, and the last, with a command more whose append failed or without it.
pub record Halted {K : Type 0} (g : Ghosts K) (before : List Stamped)
    (old keeper : K) : Type 0 where
  pub answered : List Stamped
  pub after : List Stamped
  pub first : length before ≤ length answered
  pub last : IsOneMore answered after
  pub kept : KeptOn g before old after keeper
  pub stopped : IfSome (g.payloads old) (λ ps. Stopped g answered after keeper)

-- the history with at most so many commands more
abbrev pub IsFewMore : ℕ → List Stamped → List Stamped → Type 0
IsFewMore most answered after =
    (more : List Stamped) × (length more ≤ most) × (after ≡ answered ++ more)

-- The same as `Halted`, with at most so many commands more that may be kept and weren't answered.
pub record HaltedBy {K : Type 0} (most : ℕ) (g : Ghosts K) (before : List Stamped)
    (old keeper : K) : Type 0 where
  pub answered : List Stamped
  pub after : List Stamped
  pub first : length before ≤ length answered
  pub last : IsFewMore most answered after
  pub kept : KeptOn g before old after keeper
  pub stopped : IfSome (g.payloads old) (λ ps. Stopped g answered after keeper)

-- the keeper after a request, whether the service goes on or not
abbrev pub keeper_of : {K : Type 0} → Next K → K
keeper_of (next.Go s) = s.keeper
keeper_of (next.Stop why keeper) = keeper

-- The keeper is the one from before: the service goes on over it, or stopped for want of memory.
abbrev pub LeavesKeeper : {K : Type 0} → K → Next K → Type 0
LeavesKeeper old (next.Go s) = s.keeper ≡ old
LeavesKeeper old (next.Stop why keeper) = (keeper ≡ old) × (why ≡ cause.Memory)

-- The keeper's count of faults is as it was, unless the service stopped since the keeper failed.
abbrev pub LeavesFaults : {K : Type 0} → Ghosts K → K → Next K → Type 0
LeavesFaults g old (next.Go s) = g.keep_faults s.keeper ≡ g.keep_faults old
LeavesFaults g old (next.Stop cause.Memory keeper) = g.keep_faults keeper ≡ g.keep_faults old
LeavesFaults g old (next.Stop cause.Disk keeper) = Unit {0}

-- the history with one command more, which has this number; or as it was
abbrev pub IsNumbered : List Stamped → ℕ → List Stamped → Type 0
IsNumbered before number after =
    ((one : Stamped) × (after ≡ before ++ one ∷ []) × (number ≡ length after)) ⊎ (after ≡ before)

-- the keeper's payloads are this history's, where they are told, and each stop leaves it
pub record IsSafe {K : Type 0} (g : Ghosts K) (history : List Stamped) (keeper : K) : Type 0 where
  pub payloads : IfSome (g.payloads keeper) (λ ps. ps ≡ payloads_of history)
  pub stops : (r : Result (List (List ℕ)) ℕ) → g.stop_leaves keeper r
      → r ≡ Ok (payloads_of history)

-- The service goes on with a history in which a command has this number, and made what has this id:
-- one more than before, or one that was kept before under its key. All of it is safe.
abbrev pub IsAcknowledged : {K : Type 0} → Ghosts K → List Stamped → ℕ → Option ℕ → Next K → Type 0
IsAcknowledged g before number id (next.Go s) =
    IsNumbered before number s.state.history × IsKeptAt number id s.state.history
    × IsSafe g s.state.history s.keeper
IsAcknowledged g before number id (next.Stop why keeper) = ⊥

-- The service goes on with a load's command more, which has this number. All of it is safe.
abbrev pub IsLoaded : {K : Type 0} → Ghosts K → List Stamped → ℕ → Next K → Type 0
IsLoaded g before number (next.Go s) =
    ((one : Stamped) × (s.state.history ≡ before ++ one ∷ [])) × (number ≡ length s.state.history)
    × IsSafe g s.state.history s.keeper
IsLoaded g before number (next.Stop why keeper) = ⊥
