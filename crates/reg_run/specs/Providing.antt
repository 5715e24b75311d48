-- What `provision` did: which lines it printed, and what it acknowledged.
use Rattle.std.specs.Prelude.{◌≡◌, ◌⊎◌, ◌<◌, ℕ, List, [], ◌∷◌, ◌++◌, true, Option, Some, None, Ok}
use Rattle.std.specs.Prelude.{Err, codes, length, take, option_map, IfSome}
use Rattle.std.specs.Io.KnownBytes.{append_known}
use Rattle.reg_outside.specs.Faults.{Rose}
use Rattle.reg_outside.specs.Streams.{first_moment, WritesFront}
use Rattle.reg_terms.specs.declared.command.Command.TheVariants.{ConsumerAck}
use Rattle.reg_terms.specs.declared.command.Stamped.{Stamped}
use Rattle.reg_terms.specs.declared.refusal.Refusal.{Refusal}
use Rattle.reg_terms.specs.declared.reply.Reply.{Reply}
use Rattle.reg_terms.specs.declared.reply.Reply.TheVariants as reply
use Rattle.reg_terms.specs.declared.request.Op.TheVariants as op
use Rattle.reg_terms.specs.declared.request.Request.{Request}
use Rattle.reg_keep.specs.declared.keeper.Keeper.{Ghosts}
use Rattle.reg_machine.specs.History.{State, now_facts}
use Rattle.reg_service.specs.Kept.{Halted}
use Rattle.reg_service.specs.Turn.{at_moment}
use Rattle.reg_session.specs.Replies.{is_accepted, line_of}
use Rattle.reg_words.specs.declared.task.Provision.{Provision}
use Rattle.reg_report.specs.BatchAsked.{provision_asked}
use Rattle.reg_report.specs.Delivered.{IsDelivered, place_at}
use Rattle.reg_report.specs.BatchLines.{place_line}
use Rattle.reg_run.specs.Crash.{Seen, DiskSurvives}
use Rattle.reg_run.specs.Once.{Printed, Put, TurnsOnce, end_of_reply}
use Rattle.reg_run.specs.Status.{status_of}
use Rattle.reg_run.specs.World.{Out, World, LookedOnce, SameInput, SameNet, output}
use Rattle.reg_run.specs.declared.status.End.{End}
use Rattle.reg_run.specs.declared.status.End.TheVariants as the_end

-- ---- what is promised

-- Status 0: the lines of all operations and the last line with the end were written and flushed,
-- and the end is the consumer's place after the history.
pub record DeliversAll (asked : Provision) (s : State) (history : List Stamped) (old new : Out)
    : Type 0 where
  pub place : ℕ
  pub last : ℕ
  pub lines : List ℕ
  pub those : IsDelivered asked s place last lines
  pub written : new.written ≡ append_known old.written (lines ++ place_line last)
  pub flushed : new.flushed ≡ option_map length new.written
  pub acknowledged : place_at history s.clock asked.consumer ≡ Some last

-- lines stand on the output and are flushed, whatever was written or flushed behind them
abbrev pub StandFlushed : List ℕ → Out → Out → Type 0
StandFlushed lines old new =
    ((behind : List ℕ) × (new.written ≡ append_known old.written (lines ++ behind)))
    × ((behind : List ℕ)
    × (new.flushed ≡ option_map length (append_known old.written (lines ++ behind))))

-- a history has one command more, which moves a consumer's place to a number
abbrev pub MovesPlace : List Stamped → List ℕ → ℕ → List Stamped → Type 0
MovesPlace before consumer seq history =
    (one : Stamped) × (one.command ≡ ConsumerAck consumer seq) × (history ≡ before ++ one ∷ [])

-- Every status: the history is the one before; or the consumer's place was moved to the end, and
-- the lines of all operations were written and flushed.
abbrev pub MovesBehindLines : Provision → State → List Stamped → Out → Out → Type 0
MovesBehindLines asked s history old new =
    (history ≡ s.history)
    ⊎ ((place : ℕ) × (last : ℕ) × (lines : List ℕ) × IsDelivered asked s place last lines
    × MovesPlace s.history asked.consumer last history × StandFlushed lines old new)

-- ---- how it comes about

-- nothing was accepted
abbrev pub KeepsAll : State → (answered kept : List Stamped) → Type 0
KeepsAll s answered kept = (answered ≡ s.history) × (kept ≡ s.history)

-- why no lines are printed: what is asked is refused, or there was no memory
abbrev pub IsWithheld : Provision → State → Reply → Type 0
IsWithheld asked s told =
    ((r : Refusal) × (provision_asked asked (now_facts s) ≡ Err r) × (told ≡ reply.Refused r))
    ⊎ (told ≡ reply.NoMemory)

-- that was printed
abbrev pub Withholds : Provision → State → End → Out → Out → Type 0
Withholds asked s end old new =
    (told : Reply) × IsWithheld asked s told
    × Printed (end_of_reply told) (line_of told) end old new

-- a request of GrouperSystem that moves a consumer's place to a number
abbrev pub ack_request : List ℕ → ℕ → Request
ack_request consumer seq = record {
  by = codes "g:isa/GrouperSystem";
  key = None;
  op = op.Command (ConsumerAck consumer seq);
}

-- what is printed of its reply: in place of the command's number the last line
abbrev pub ack_line : List ℕ → Reply → List ℕ
ack_line last (reply.Number n id) = last
ack_line last (reply.Loaded n counts) = line_of (reply.Loaded n counts)
ack_line last (reply.Answer a) = line_of (reply.Answer a)
ack_line last (reply.Refused r) = line_of (reply.Refused r)
ack_line last reply.NoMemory = line_of reply.NoMemory
ack_line last reply.KeepFault = line_of reply.KeepFault

-- That was asked at a moment, and printed, or the output failed. Where it was accepted, the
-- consumer's place is that number.
pub record Acknowledges (s : State) (at : ℕ) (consumer : List ℕ) (seq : ℕ) (end : End)
    (answered kept : List Stamped) (old new : Out) : Type 0 where
  pub told : Reply
  pub turn : TurnsOnce s at (Ok (ack_request consumer seq)) told answered kept
  pub printed : Printed (end_of_reply told) (ack_line (place_line seq) told) end old new
  pub moved : is_accepted told ≡ true → place_at answered s.clock consumer ≡ Some seq

-- behind the lines the end was acknowledged, where it is behind the place; else the last line was
-- printed at once
abbrev pub FollowsLines : State → (at : ℕ) → List ℕ → (place last : ℕ) → End
    → (answered kept : List Stamped) → Out → Out → Type 0
FollowsLines s at consumer place last end answered kept old new =
    ((place < last) × Acknowledges s at consumer last end answered kept old new)
    ⊎ ((last ≡ place) × KeepsAll s answered kept
    × Put the_end.Done (place_line last) end old new)

-- the output failed within lines; or they were written and flushed, and that followed
abbrev pub HandsOver : State → (at : ℕ) → List ℕ → (place last : ℕ) → List ℕ → End
    → (answered kept : List Stamped) → Out → Out → Type 0
HandsOver s at consumer place last lines end answered kept old new =
    (KeepsAll s answered kept × (end ≡ the_end.Output) × Rose old.writes new.writes
    × WritesFront old.written new.written lines × (new.flushed ≡ old.flushed))
    ⊎ ((mid : Out) × (mid.written ≡ append_known old.written lines)
    × (mid.flushed ≡ option_map length mid.written)
    × FollowsLines s at consumer place last end answered kept mid new)

-- what `provision` did in a state, at the moment that the clock gave: no lines were due, or they
-- were handed over
abbrev pub Provides : Provision → State → (at : ℕ) → End → (answered kept : List Stamped) → Out
    → Out → Type 0
Provides asked s at end answered kept old new =
    (KeepsAll s answered kept × Withholds asked s end old new)
    ⊎ ((place : ℕ) × (last : ℕ) × (lines : List ℕ) × IsDelivered asked s place last lines
    × HandsOver s at asked.consumer place last lines end answered kept old new)

-- A service was asked for that. Where it ended for the disk, the keeper failed.
pub record ProvidesOnce {K : Type 0} (g : Ghosts K) (from : State) (old : K) (asked : Provision)
    (moments : Option (List ℕ)) (out after : Out) (end : End) (keeper : K) : Type 0 where
  pub at : ℕ
  pub moment : IfSome moments (λ ms. at ≡ first_moment ms)
  pub halted : Halted g from.history old keeper
  pub ends : Provides asked (at_moment from at) at end halted.answered halted.after out after
  pub disk : end ≡ the_end.Disk → Rose (g.keep_faults old) (g.keep_faults keeper)

-- `provision` from the state that the file opened to, which came to the clock's next moment: the
-- commands that were accepted, how many of them were answered, how it ended, and what it leaves of
-- the disk.
pub record DidProvision (d : Seen) (asked : Provision) (end : End) (before after : World)
    (from : State) : Type 0 where
  pub at : ℕ
  pub moment : IfSome before.moments (λ ms. at ≡ first_moment ms)
  pub accepted : List Stamped
  pub answered : ℕ
  pub ends : Provides asked (at_moment from at) at end (from.history
      ++ take answered accepted) (from.history ++ accepted) (output before) (output after)
  pub delivers : end ≡ the_end.Done
      → DeliversAll asked (at_moment from at) (from.history ++ accepted) (output before)
      (output after)
  pub moves : MovesBehindLines asked (at_moment from at) (from.history
      ++ accepted) (output before) (output after)
  pub fault : end ≡ the_end.Disk → Rose before.faults after.faults
  pub input : SameInput before after
  pub clock : LookedOnce before after
  pub net : SameNet before after
  pub disk : DiskSurvives 1 d from.history accepted answered (status_of end)
