-- What a crash leaves of the disk: at any moment of a run, and after it.
use Rattle.std.specs.Prelude.{◌≡◌, ◌⊎◌, ◌≤◌, ◌+◌, ℕ, List, ◌++◌, length, take, Option}
use Rattle.std.specs.Prelude.{Result, Ok, Err, IfSome, true}
use Rattle.reg_terms.specs.declared.command.Stamped.{Stamped}
use Rattle.reg_machine.specs.History.{State, start}
use Rattle.reg_outside.specs.declared.disk.Disk.{Ghosts}
use Rattle.reg_keep.specs.Begin.{is_taken}
use Rattle.reg_keep.specs.Frames.{payloads_in}
use Rattle.reg_service.specs.Opening.{opens, at_last}

-- the file opens to this, where it is told
abbrev pub OpensTo : Option (List ℕ) → Result State ℕ → Type 0
OpensTo held r = IfSome held (λ file. opens file ≡ r)

-- the file has the payloads, or the damage, that one of these images had
abbrev pub AsBefore : (List ℕ → Type 0) → List ℕ → Type 0
AsBefore was file = (c : List ℕ) × was c × (payloads_in file ≡ payloads_in c)

-- the file opens to a history followed by at least so many of the commands that were accepted after
-- it
abbrev pub OpensWith : List Stamped → List Stamped → ℕ → List ℕ → Type 0
OpensWith before accepted least file =
    (n : ℕ) × (least ≤ n) × (n ≤ length accepted)
    × (opens file ≡ Ok (at_last (before ++ take n accepted)))

-- the other lacks the last commands of this history, or has commands more: so many of them at most
abbrev pub IsNear : ℕ → List Stamped → List Stamped → Type 0
IsNear most history other =
    (more : List Stamped) × (length more ≤ most)
    × ((history ≡ other ++ more) ⊎ (other ≡ history ++ more))

-- A disk is sound for a history, but for so many commands: its bytes open to it, and each image to
-- it, to it without its last commands or with commands more, of these so many at most.
pub record IsSound (most : ℕ) (held : Option (List ℕ)) (images : List ℕ → Type 0)
    (history : List Stamped) : Type 0 where
  pub bytes : IfSome held (λ file. opens file ≡ Ok (at_last history))
  pub near : (c : List ℕ) → images c
      → (other : List Stamped) × IsNear most history other × (opens c ≡ Ok (at_last other))

-- a run ended at its input's end, or where that or the listener failed or there was too much input:
-- at status 0, 5, 8 or 9
abbrev pub IsWhole : ℕ → Type 0
IsWhole status = (status ≡ 0) ⊎ ((status ≡ 5) ⊎ ((status ≡ 8) ⊎ (status ≡ 9)))

-- What a run leaves that began at a history, accepted these commands after it, and answered all of
-- them but perhaps the last ones, so many at most. Its disk held these bytes and might leave these
-- images before, and does those now.
pub record Survives (most : ℕ) (before accepted : List Stamped) (answered status : ℕ)
    (held : Option (List ℕ)) (was : List ℕ → Type 0) (left : Option (List ℕ))
    (images since : List ℕ → Type 0) : Type 0 where
  pub few : (answered ≤ length accepted) × (length accepted ≤ answered + most)
  -- at any moment since the start a crash leaves what it might have left before, or a front of the
  -- accepted commands
  pub always : (c : List ℕ) → since c → AsBefore was c ⊎ OpensWith before accepted 0 c
  -- now it leaves all that were answered
  pub now : (c : List ℕ) → images c → OpensWith before accepted answered c
  -- and so do the bytes
  pub bytes : IfSome left (OpensWith before accepted answered)
  -- at status 0, 5, 8 and 9 it leaves all that were accepted
  pub done : IsWhole status → (c : List ℕ) → images c → opens c ≡ Ok (at_last (before ++ accepted))
  -- and so do the bytes
  pub whole : IsWhole status → IfSome left (λ file. opens file ≡ Ok (at_last (before ++ accepted)))
  -- a sound disk stays sound, but for as many commands or more
  pub sound : (m : ℕ) → most ≤ m → IsSound m held was before
      → (n : ℕ) × (answered ≤ n) × (n ≤ length accepted)
      × IsSound m left images (before ++ take n accepted)

-- Of a disk whose file opens to this history: each image since the start is one from before, and
-- where the disk was sound for the history, it is sound for it again.
pub record StaysAt (history : List Stamped) (held : Option (List ℕ)) (was : List ℕ → Type 0)
    (left : Option (List ℕ)) (images since : List ℕ → Type 0) : Type 0 where
  pub always : (c : List ℕ) → since c → was c
  pub sound : (m : ℕ) → IsSound m held was history → IsSound m left images history

-- Each image since the start is one from before, or opens to the empty history, or is damaged. At
-- status 0 each image now opens to the empty history. At every status `StaysAt` holds of the
-- history that the file opened to, where it did.
abbrev pub Begins : ℕ → (held : Option (List ℕ)) (was : List ℕ → Type 0) (left : Option (List ℕ))
    (images since : List ℕ → Type 0) → Type 0
Begins status held was left images since =
    ((c : List ℕ) → since c → was c ⊎ ((opens c ≡ Ok start) ⊎ ((at : ℕ) × (opens c ≡ Err at))))
    × (status ≡ 0 → (c : List ℕ) → images c → opens c ≡ Ok start)
    × IfSome held (λ file. (from : State) → opens file ≡ Ok from
    → StaysAt from.history held was left images since)

-- what a run sees of a disk: its bytes and images before and after, the images at all moments
-- since, the moment after, and the images since a moment
pub record Seen : Type 1 where
  pub held : Option (List ℕ)
  pub was : List ℕ → Type 0
  pub left : Option (List ℕ)
  pub images : List ℕ → Type 0
  pub since : List ℕ → Type 0
  pub moment : ℕ
  pub since_moment : ℕ → List ℕ → Type 0

-- the same of this disk, from an earlier state to a later one
abbrev pub seen : {D : Type 0} → Ghosts D → D → D → Seen
seen g old new = record {
  held = g.contents old;
  was = g.may_leave old;
  left = g.contents new;
  images = g.may_leave new;
  since = g.left_since new (g.moment old);
  moment = g.moment new;
  since_moment = g.left_since new;
}

-- the bytes are those from before, and each image since the start is one from before
abbrev pub IsUntouched : Seen → Type 0
IsUntouched d = (d.left ≡ d.held) × ((c : List ℕ) → d.since c → d.was c)

-- what a run leaves of a disk that opened to a history, with these commands accepted and so many of
-- them answered, all but the last ones
abbrev pub DiskSurvives : (most : ℕ) → Seen → List Stamped → List Stamped → (answered status : ℕ)
    → Type 0
DiskSurvives most d before accepted answered status =
    IfSome d.held (λ file. Survives most before accepted answered status d.held d.was d.left
    d.images d.since)

-- what beginning a journal leaves of a disk; over a file that is taken nothing is written
pub record DiskBegins (d : Seen) (status : ℕ) : Type 0 where
  pub begins : Begins status d.held d.was d.left d.images d.since
  pub taken : IfSome d.held (λ file. is_taken file ≡ true → IsUntouched d)
