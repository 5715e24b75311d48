-- How a load ends, from how its parts did.
use Rattle.std.proofs.Common.{◌≡◌, ◌≤◌, ◌<◌, ◌+◌, ◌++◌, ◌∙◌, ◌⊎◌, [], List, ℕ, Bool, true, false, Option, Some, None, Result, Ok, Err, length, length-append, take, refl, ap, sym, subst, arith, inl, inr}
use Rattle.std.specs.Prelude.{nat_lt, option_map, if◌then◌else◌}
use Rattle.std.specs.Io.KnownBytes.{prepend_known, IsAtEnd}
use Rattle.std.proofs.lemmas.Bool.{cond-true, lt-ltb}
use Rattle.reg_outside.specs.Faults.{Rose}
use Rattle.reg_outside.specs.Streams.{later_moments}
use Rattle.reg_base.specs.declared.entity.Entity.{Entity}
use Rattle.reg_base.specs.Entities.{entity_of}
use Rattle.reg_base.specs.Names.{is_extension}
use Rattle.reg_terms.specs.Limits.{max_line}
use Rattle.reg_terms.specs.declared.command.Command.{Command}
use Rattle.reg_terms.specs.declared.command.Stamped.{Stamped}
use Rattle.reg_terms.specs.declared.query.Answer.{Answer}
use Rattle.reg_terms.specs.declared.refusal.Refusal.{Refusal}
use Rattle.reg_terms.specs.declared.refusal.Refusal.TheVariants.{OtherCommand, TooLong}
use Rattle.reg_terms.specs.declared.reply.LoadCounts.{LoadCounts}
use Rattle.reg_terms.specs.declared.reply.Reply.{Reply}
use Rattle.reg_terms.specs.declared.reply.Reply.TheVariants as reply
use Rattle.reg_terms.specs.declared.request.Op.{Op}
use Rattle.reg_terms.specs.declared.request.Op.TheVariants as op
use Rattle.reg_terms.specs.declared.request.Request.{Request}
use Rattle.reg_machine.specs.History.{State}
use Rattle.reg_machine.specs.Keys.{KeptCommand, keyed, same_command}
use Rattle.reg_machine.specs.Loads.{load_outcome}
use Rattle.reg_machine.specs.Refusals.{refusal}
use Rattle.reg_view.specs.AtClock.{told}
use Rattle.reg_service.specs.Kept.{Began}
use Rattle.reg_service.specs.Turn.{HasForm, Turns, answered, answered_again, at_moment, decided, last_reply, load_ordered, loaded, ordered, ordered_again, ordered_by, requested, turn}
use Rattle.reg_service.specs.declared.service.Cause.{Cause}
use Rattle.reg_service.specs.declared.service.Cause.TheVariants as cause
use Rattle.reg_session.specs.Input.{Takes}
use Rattle.reg_session.specs.Pending.{Holds}
use Rattle.reg_session.specs.declared.pending.PendingLine.{PendingLine}
use Rattle.reg_session.proofs.Feeding.{takes_more}
use Rattle.reg_run.specs.Crash.{IsWhole}
use Rattle.reg_run.specs.Ends.{LoadAsked, LoadBroke}
use Rattle.reg_run.specs.Once.{AsksOnce, HasTable, IsTakenWhole, Printed, TakesSome, TakesTable, TurnsOnce, end_of_reply, load_of, load_request}
use Rattle.reg_run.specs.Status.{status_of}
use Rattle.reg_run.specs.World.{LookedOnce, Out, World, output}
use Rattle.reg_run.specs.declared.status.End.{End}
use Rattle.reg_run.specs.declared.status.End.TheVariants as the_end
use Rattle.reg_run.proofs.Ending.{three, four, six}

-- ---- the table

-- nothing was taken
pub table_none : (left : Option (List ℕ)) (kept : PendingLine) → Holds kept [] → HasTable left left kept 0
table_none left kept held = record { taken = []; input = same left; held = held; counted = refl }
  where
    same : (o : Option (List ℕ)) → o ≡ prepend_known [] o
    same None = refl
    same (Some bytes) = refl

-- a piece more was
pub table_more : (left mid now : Option (List ℕ)) (a b : PendingLine) (count n : ℕ) (piece : List ℕ) → HasTable left mid a count → mid ≡ prepend_known piece now → length piece ≡ n
    → ((line : List ℕ) → Holds a line → Holds b (line ++ piece)) → HasTable left now b (count + n)
table_more left mid now a b count n piece done read long more = record {
  taken = done.taken ++ piece;
  input = takes_more left mid now done.taken piece done.input read;
  held = more done.taken done.held;
  counted = omega (arith, length-append done.taken piece, done.counted, long);
}

took_none : (left mid now : Option (List ℕ)) (taken bs : List ℕ) (k : ℕ) → Takes left taken mid → mid ≡ prepend_known (take k bs) now → k ≡ 0 → Takes left taken now
took_none left mid now taken bs k input read none = input ∙ ap (prepend_known taken) (read ∙ (ap (λ (n : ℕ). prepend_known (take n bs) now) none ∙ nothing now))
  where
    nothing : (o : Option (List ℕ)) → prepend_known [] o ≡ o
    nothing None = refl
    nothing (Some bytes) = refl

-- the input has ended
pub table_ended : (left mid now : Option (List ℕ)) (kept : PendingLine) (count k : ℕ) (bs : List ℕ) → HasTable left mid kept count → count ≤ max_line + 1 → mid ≡ prepend_known (take k bs) now → k ≡ 0 → IsAtEnd now → TakesTable left now kept
table_ended left mid now kept count k bs done few read none ended = record {
  taken = done.taken;
  input = took_none left mid now done.taken bs k done.input read none;
  held = done.held;
  few = omega (arith, done.counted, few);
  whole = inl ended;
}

-- as much was taken as is taken at most
pub table_full : (left now : Option (List ℕ)) (kept : PendingLine) (count : ℕ) → HasTable left now kept count → count ≤ max_line + 1 → max_line + 1 ≤ count → TakesTable left now kept
table_full left now kept count done few all = record {
  taken = done.taken;
  input = done.input;
  held = done.held;
  few = omega (arith, done.counted, few);
  whole = inr (omega (arith, done.counted, few, all));
}

-- a read failed
pub table_broke : (left mid now : Option (List ℕ)) (kept : PendingLine) (count : ℕ) → HasTable left mid kept count → count ≤ max_line + 1 → now ≡ mid → TakesSome left now
table_broke left mid now kept count done few same = (done.taken, done.input ∙ ap (prepend_known done.taken) (sym same), omega (arith, done.counted, few))

-- ---- the reply

abbrev is_fault : Reply → Bool
is_fault (reply.Number n id) = false
is_fault (reply.Loaded n counts) = false
is_fault (reply.Answer a) = false
is_fault (reply.Refused r) = false
is_fault reply.NoMemory = false
is_fault reply.KeepFault = true

decided_sure : (s : State) (by : Entity) (key : Option (List ℕ)) (command : Command) (r : Option Refusal) → is_fault (decided s by key command r).0 ≡ false
decided_sure s by key command None = refl
decided_sure s by key command (Some r) = refl

either_sure : (b : Bool) (one other : Reply) → is_fault one ≡ false → is_fault other ≡ false → is_fault (if b then one else other) ≡ false
either_sure true one other a b = a
either_sure false one other a b = b

kept_sure : (kept : KeptCommand) (command : Command) → is_fault (answered_again kept command) ≡ false
kept_sure kept command = either_sure (same_command kept.command command) (reply.Number kept.number kept.id) (reply.Refused (OtherCommand kept.number)) refl refl

again_sure : (s : State) (by : Entity) (key : List ℕ) (command : Command) (kept : Option KeptCommand) → is_fault (ordered_again s by key command kept).0 ≡ false
again_sure s by key command None = decided_sure s by (Some key) command (refusal s.history s.clock by command)
again_sure s by key command (Some kept) = kept_sure kept command

entity_sure : (s : State) (by : Entity) (key : Option (List ℕ)) (command : Command) → is_fault (ordered_by s by key command).0 ≡ false
entity_sure s by None command = decided_sure s by None command (refusal s.history s.clock by command)
entity_sure s by (Some key) command = again_sure s by key command (keyed s.history by key)

ordered_sure : (s : State) (by : Option Entity) (key : Option (List ℕ)) (command : Command) → is_fault (ordered s by key command).0 ≡ false
ordered_sure s None key command = refl
ordered_sure s (Some by) key command = entity_sure s by key command

loaded_sure : (s : State) (by : Entity) (plan : Result (Command × LoadCounts) Refusal) → is_fault (loaded s by plan).0 ≡ false
loaded_sure s by (Ok plan) = refl
loaded_sure s by (Err r) = refl

load_sure : (s : State) (by : Option Entity) (job table : List ℕ) → is_fault (load_ordered s by job table).0 ≡ false
load_sure s None job table = refl
load_sure s (Some by) job table = loaded_sure s by (load_outcome s.history s.clock by job table)

answered_sure : (r : Result Answer Refusal) → is_fault (answered r) ≡ false
answered_sure (Ok a) = refl
answered_sure (Err r) = refl

requested_sure : (s : State) (by : List ℕ) (key : Option (List ℕ)) (o : Op) → is_fault (requested s by key o).0 ≡ false
requested_sure s by key (op.Command command) = ordered_sure s (entity_of by) key command
requested_sure s by key (op.Query query) = answered_sure (told s.history s.clock by query)
requested_sure s by key (op.Load job table) = load_sure s (entity_of by) job table

turn_sure : (s : State) (m : ℕ) (reading : Result Request Refusal) → is_fault (turn s m reading).0 ≡ false
turn_sure s m (Ok request) = requested_sure (at_moment s m) request.by request.key request.op
turn_sure s m (Err r) = refl

-- where the service goes on, no keeper failed
turns_sure : (s last : State) (m : ℕ) (reading : Result Request Refusal) (given : Reply) → Turns s m reading given last → is_fault given ≡ false
turns_sure s last m reading given (inl e) = ap (λ (p : Reply × State). is_fault p.0) e ∙ turn_sure s m reading
turns_sure s last m reading given (inr wants) = ap is_fault wants.fault

end_fault : (given : Reply) → end_of_reply given ≡ the_end.Disk → is_fault given ≡ true
end_fault (reply.Number n id) e = absurd (cc)
end_fault (reply.Loaded n counts) e = absurd (cc)
end_fault (reply.Answer a) e = absurd (cc)
end_fault (reply.Refused r) e = absurd (cc)
end_fault reply.NoMemory e = absurd (cc)
end_fault reply.KeepFault e = refl

-- what ends for the disk replies that the keeper failed
printed_fault : (given : Reply) (bytes : List ℕ) (end : End) (old new : Out) → Printed (end_of_reply given) bytes end old new → end ≡ the_end.Disk → is_fault given ≡ true
printed_fault given bytes end old new (inl (inl p)) is = end_fault given (sym p.0 ∙ is)
printed_fault given bytes end old new (inl (inr p)) is = let both : the_end.Output ≡ the_end.Disk = sym p.0 ∙ is in absurd (cc)
printed_fault given bytes end old new (inr p) is = let both : the_end.Memory ≡ the_end.Disk = sym p.0 ∙ is in absurd (cc)

pub goes_sure : (s last : State) (m : ℕ) (reading : Result Request Refusal) (given : Reply) (bytes : List ℕ) (end : End) (old new : Out) → Turns s m reading given last → Printed (end_of_reply given) bytes end old new → end ≡ the_end.Disk → ⊥
goes_sure s last m reading given bytes end old new t p is =
    let no : is_fault given ≡ false = turns_sure s last m reading given t in
    let yes : is_fault given ≡ true = printed_fault given bytes end old new p is in
    absurd (cc)

-- where it stops, the keeper failed if it ends for the disk
pub stops_disk : (why : Cause) (given : Reply) (bytes : List ℕ) (end : End) (old new : Out) → given ≡ last_reply why → Printed (end_of_reply given) bytes end old new → end ≡ the_end.Disk → why ≡ cause.Disk
stops_disk cause.Memory given bytes end old new is p disk =
    let no : is_fault given ≡ false = ap is_fault is in
    let yes : is_fault given ≡ true = printed_fault given bytes end old new p disk in
    absurd (cc)
stops_disk cause.Disk given bytes end old new is p disk = refl

-- what follows where it stops
pub stops_once : (s : State) (m : ℕ) (reading : Result Request Refusal) (given : Reply) (after : List Stamped) (why : Cause) → given ≡ last_reply why → Began why s.history (turn s m reading).1.history after
    → TurnsOnce s m reading given s.history after
stops_once s m reading given after cause.Memory is began = inr (inl (is, refl, began))
stops_once s m reading given after cause.Disk is began = inr (inr (is, refl, began))

-- ---- the end

fault_not_whole : (given : Reply) (bytes : List ℕ) (end : End) (old new : Out) → given ≡ reply.KeepFault → Printed (end_of_reply given) bytes end old new → IsWhole (status_of end) → ⊥
fault_not_whole given bytes end old new is (inl (inl p)) whole = four (subst (λ (e : End). IsWhole (status_of e)) (p.0 ∙ ap end_of_reply is) whole)
fault_not_whole given bytes end old new is (inl (inr p)) whole = six (subst (λ (e : End). IsWhole (status_of e)) p.0 whole)
fault_not_whole given bytes end old new is (inr p) whole = three (subst (λ (e : End). IsWhole (status_of e)) p.0 whole)

pub once_whole : (s : State) (m : ℕ) (reading : Result Request Refusal) (given : Reply) (bytes : List ℕ) (end : End) (old new : Out) (answered kept : List Stamped) → TurnsOnce s m reading given answered kept
    → Printed (end_of_reply given) bytes end old new → IsWhole (status_of end) → answered ≡ kept
once_whole s m reading given bytes end old new answered kept (inl t) p whole = t.2 ∙ sym t.3
once_whole s m reading given bytes end old new answered kept (inr (inl t)) p whole = t.1 ∙ sym t.2
once_whole s m reading given bytes end old new answered kept (inr (inr t)) p whole = absurd (fault_not_whole given bytes end old new t.0 p whole)

-- where the run is whole, all that was accepted was answered
pub load_whole : (from : State) (job taken : List ℕ) (now moments later : Option (List ℕ)) (old new : Out) (reads more : ℕ) (end : End) (answered kept : List Stamped)
    → ((end ≡ the_end.Input) × Rose reads more × (new ≡ old) × (later ≡ moments) × (answered ≡ from.history) × (kept ≡ from.history))
    ⊎ (IsTakenWhole taken now × (later ≡ option_map later_moments moments) × AsksOnce from moments (load_of job taken) end answered kept old new) → IsWhole (status_of end) → answered ≡ kept
load_whole from job taken now moments later old new reads more end answered kept (inl broke) whole = broke.4 ∙ sym broke.5
load_whole from job taken now moments later old new reads more end answered kept (inr asked) whole =
    let once = asked.2 in
    once_whole from once.at (load_of job taken) once.told _ end _ _ answered kept once.turn once.printed whole

-- what was answered and kept, counted from the history on
pub load_ends : (from : State) (job taken : List ℕ) (before after : World) (end : End) (more : List Stamped) (n : ℕ) (answered kept : List Stamped) → from.history ++ take n more ≡ answered → kept ≡ from.history ++ more
    → LoadBroke end from before after answered kept ⊎ LoadAsked end from job taken before after answered kept
    → LoadBroke end from before after (from.history ++ take n more) (from.history ++ more) ⊎ LoadAsked end from job taken before after (from.history ++ take n more) (from.history ++ more)
load_ends from job taken before after end more n answered kept front grown ends =
    subst (λ (l : List Stamped). LoadBroke end from before after (from.history ++ take n more) l ⊎ LoadAsked end from job taken before after (from.history ++ take n more) l) grown
    (subst (λ (l : List Stamped). LoadBroke end from before after l kept ⊎ LoadAsked end from job taken before after l kept) (sym front) ends)

-- from what a service did
pub load_did : (from : State) (job taken : List ℕ) (before after : World) (end : End) (answered kept : List Stamped) → (end ≡ the_end.Disk → Rose before.faults after.faults)
    → ((end ≡ the_end.Input) × Rose before.reads after.reads × (output after ≡ output before) × (after.moments ≡ before.moments) × (answered ≡ from.history) × (kept ≡ from.history))
    ⊎ (IsTakenWhole taken after.left × LookedOnce before after × AsksOnce from before.moments (load_of job taken) end answered kept (output before) (output after))
    → LoadBroke end from before after answered kept ⊎ LoadAsked end from job taken before after answered kept
load_did from job taken before after end answered kept disk (inl b) =
    inl (b.0, b.1, (ap (λ (o : Out). o.written) b.2, ap (λ (o : Out). o.flushed) b.2, ap (λ (o : Out). o.writes) b.2), b.3, b.4, b.5)
load_did from job taken before after end answered kept disk (inr a) = inr (a.0, a.1, a.2, disk)

-- ---- the reading

-- a load that is asked has its form: it has no key
pub load_form : (job table : List ℕ) → is_extension job ≡ true → HasForm (load_request job table)
load_form job table name = record { fields = name; key = refl }

-- a table that is too long
pub long_load : (job table : List ℕ) → max_line < length table → load_of job table ≡ Err (TooLong max_line)
long_load job table long = cond-true (nat_lt max_line (length table)) _ _ (lt-ltb max_line (length table) long)
