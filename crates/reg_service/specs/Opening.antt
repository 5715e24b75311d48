-- What a journal opens to, in either format: the history of its payloads, where each reads back as a
-- command that is accepted there.
use Rattle.std.specs.Prelude.{◌≡◌, ℕ, ◌≤◌, ◌||◌, List, [], ◌∷◌, Bool, false, not, Option, Some}
use Rattle.std.specs.Prelude.{None, Result}
use Rattle.std.specs.Prelude.{Ok, Err, map, nat_lt, if◌then◌else◌, IfSome, length, take}
use Rattle.reg_terms.specs.declared.command.Stamped.{Stamped}
use Rattle.reg_terms.specs.declared.refusal.Refusal.{Refusal}
use Rattle.reg_machine.specs.History.{State, start, appended}
use Rattle.reg_machine.specs.Keys.{is_free}
use Rattle.reg_machine.specs.Refusals.{refusal}
use Rattle.reg_wire.specs.Payload.{payload, stamped_of}
use Rattle.reg_wire.specs.OldPayload.{stamped_of_old}
use Rattle.reg_keep.specs.Frames.{opened, opened_old}

-- the payloads of a history
abbrev pub payloads_of : List Stamped → List (List ℕ)
payloads_of history = map payload history

-- the moment of the last of these commands, or this one where there is none
abbrev pub last_from : ℕ → List Stamped → ℕ
last_from m [] = m
last_from m (s ∷ ss) = last_from s.at ss

-- a history with the clock at its last moment, or at 0
abbrev pub at_last : List Stamped → State
at_last history = record { history = history; clock = last_from 0 history }

-- a command that isn't refused acts at its moment
abbrev pub accepted : State → Stamped → Option Refusal → Option State
accepted s stamped None =
    Some (appended (record {
      history = s.history;
      clock = stamped.at;
    }) stamped.by stamped.key stamped.command)
accepted s stamped (Some r) = None

-- the state after a stamped command, unless its moment is less than the clock, its caller has its
-- key already, or it is refused
abbrev pub after_stamped : State → Option Stamped → Option State
after_stamped s None = None
after_stamped s (Some stamped) =
    if nat_lt stamped.at s.clock || not (is_free s.history stamped.by stamped.key) then None
    else accepted s stamped (refusal s.history stamped.at stamped.by stamped.command)

-- the state after a payload
unfoldable pub after_payload : State → List ℕ → Option State
after_payload s bytes = after_stamped s (stamped_of bytes)

-- the state after a payload of format 1
unfoldable pub after_old_payload : State → List ℕ → Option State
after_old_payload s bytes = after_stamped s (stamped_of_old bytes)

-- the same, or the payload's place
abbrev pub or_place : ℕ → Option State → Result State ℕ
or_place place None = Err place
or_place place (Some s) = Ok s

-- the rest of the records goes on from there
abbrev pub and_then : Result State ℕ → (State → Result State ℕ) → Result State ℕ
and_then (Ok s) more = more s
and_then (Err place) more = Err place

-- the state after these records, of which each payload is taken so, or the place of the first whose
-- payload is no command's, falls in time, has a key that its caller has, or is refused
abbrev pub judged_by : (State → List ℕ → Option State) → State → List (ℕ × List ℕ)
    → Result State ℕ
judged_by take_one s [] = Ok s
judged_by take_one s (r ∷ rs) =
    and_then (or_place r.0 (take_one s r.1)) (λ after. judged_by take_one after rs)

-- the same of payloads of format 2
abbrev pub judged : State → List (ℕ × List ℕ) → Result State ℕ
judged s records = judged_by after_payload s records

-- the same of payloads of format 1
abbrev pub judged_old : State → List (ℕ × List ℕ) → Result State ℕ
judged_old s records = judged_by after_old_payload s records

-- the records of a file, judged from the empty history on
abbrev pub judged_all : Result (List (ℕ × List ℕ)) ℕ → Result State ℕ
judged_all (Ok records) = judged start records
judged_all (Err place) = Err place

-- the same of a file of format 1
abbrev pub judged_all_old : Result (List (ℕ × List ℕ)) ℕ → Result State ℕ
judged_all_old (Ok records) = judged_old start records
judged_all_old (Err place) = Err place

-- what a file opens to: a history with its clock, or the place of the damage
abbrev pub opens : List ℕ → Result State ℕ
opens file = judged_all (opened file)

-- what a file of format 1 opens to
abbrev pub opens_old : List ℕ → Result State ℕ
opens_old file = judged_all_old (opened_old file)

-- what has this history's payloads opens to it
abbrev pub Reopens : List Stamped → Type 0
Reopens history =
    (records : List (ℕ × List ℕ)) → map (λ r. r.1) records ≡ payloads_of history
    → judged start records ≡ Ok (at_last history)

-- so does each front of it
abbrev pub FrontsReopen : List Stamped → Type 0
FrontsReopen history = (n : ℕ) → n ≤ length history → Reopens (take n history)

-- A service's history and clock, and the payloads that its keeper tells. The payloads are the
-- history's, each front of it opens again, and no append has failed.
pub record IsServed (s : State) (told : Option (List (List ℕ))) (failed : Bool) : Type 0 where
  pub payloads : IfSome told (λ ps. ps ≡ payloads_of s.history)
  pub going : failed ≡ false
  pub opens : FrontsReopen s.history
  pub last : last_from 0 s.history ≤ s.clock

-- what a service is seen as: history and clock, and the keeper
pub record Served (K : Type 0) : Type 0 where
  pub state : State
  pub keeper : K
