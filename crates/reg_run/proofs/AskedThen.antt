-- The registry as it was at a moment: how it is found, and asked.
use Rattle.std.proofs.Common.{true, ◌≡◌, List, ℕ, Option, Some, None, Result, Ok, Err, refl, ap, sym, subst, ◌∙◌, inl, inr}
use Rattle.std.specs.Prelude.{IfSome, IsErr}
use Rattle.reg_outside.specs.Faults.{Rose}
use Rattle.reg_terms.specs.declared.refusal.Refusal.{Refusal}
use Rattle.reg_terms.specs.declared.reply.Reply.TheVariants as reply
use Rattle.reg_machine.specs.History.{State, start}
use Rattle.reg_keep.specs.Frames.{begins_old, opened}
use Rattle.reg_keep.specs.declared.open.OpenFault.{OpenFault}
use Rattle.reg_keep.specs.declared.open.OpenFault.TheVariants as fault
use Rattle.reg_service.specs.Opening.{judged, judged_all}
use Rattle.reg_session.specs.declared.stop.Stop.{Stop}
use Rattle.reg_session.specs.declared.stop.Stop.TheVariants as stop
use Rattle.reg_report.specs.Gives.{Fails}
use Rattle.reg_report.specs.declared.asked.Unreported.{Unreported}
use Rattle.reg_report.specs.declared.asked.Unreported.TheVariants as unreported
use Rattle.reg_asof.specs.Ends.{StopsTelling}
use Rattle.reg_asof.specs.Then.{state_at}
use Rattle.reg_run.specs.AsOf.{AnswersLines, AsOfEnds, DidAsOf, In, NotReread, input}
use Rattle.reg_run.specs.Crash.{OpensTo, Seen}
use Rattle.reg_run.specs.Due.{Told, due_of}
use Rattle.reg_run.specs.Earlier.{AsksFound, FindsAt, FindsEarlier}
use Rattle.reg_run.specs.Ends.{OpenCaused, OverJournal, end_of_open, end_of_stop}
use Rattle.reg_run.specs.Status.{status_of}
use Rattle.reg_run.specs.World.{Out, SameNet, World, output}
use Rattle.reg_run.specs.declared.earlier.Unasked.{Unasked}
use Rattle.reg_run.specs.declared.earlier.Unasked.TheVariants as unasked
use Rattle.reg_run.specs.declared.status.End.{End}
use Rattle.reg_run.proofs.Gathering.{Records}
use Rattle.reg_run.proofs.Opened.{opens_new}

-- ---- finding it

-- it is that of the history
pub as_then : (held : Option (List ℕ)) (records : Records) (last s : State) (at : ℕ) → ((from : State) → judged start records ≡ Ok from → s ≡ state_at from.history at) → IfSome held (λ file. judged start records ≡ Ok last) → IfSome held (λ file. s ≡ state_at last.history at)
as_then None records last s at is opens = tt
as_then (Some file) records last s at is opens = is last opens

undamaged : (held : Option (List ℕ)) (r : Result State ℕ) (last : State) (place : ℕ) → r ≡ Err place → IfSome held (λ file. r ≡ Ok last) → IfSome held (λ file. ⊥)
undamaged None r last place is opens = tt
undamaged (Some file) r last place is opens = let both : Err place ≡ Ok last = sym is ∙ opens in absurd (cc)

-- there was no memory for it
pub not_replayed : (last : State) (held : Option (List ℕ)) (faults later : ℕ) (records : Records) (f : OpenFault) → ((place : ℕ) → f ≡ fault.Damaged place → judged start records ≡ Err place) → (f ≡ fault.Fault → ⊥)
    → (f ≡ fault.OtherFormat → ⊥) → IfSome held (λ file. judged start records ≡ Ok last) → NotReread (end_of_open f) held faults later
not_replayed last held faults later records (fault.Damaged place) damaged never none opens = undamaged held (judged start records) last place (damaged place refl) opens
not_replayed last held faults later records fault.Fault damaged never none opens = absurd (never refl)
not_replayed last held faults later records fault.NoMemory damaged never none opens = tt
not_replayed last held faults later records fault.OtherFormat damaged never none opens = absurd (none refl)

-- the records of a file that opens are judged as it is
pub judged_again : (held : Option (List ℕ)) (records : Records) (last : State) → OpensTo held (Ok last) → IfSome held (λ file. opened file ≡ Ok records) → IfSome held (λ file. judged start records ≡ Ok last)
judged_again None records last opens read = tt
judged_again (Some file) records last opens read = ap judged_all (sym read) ∙ opens

no_damage : (held : Option (List ℕ)) (last : State) (place : ℕ) → IfSome held (λ file. opened file ≡ Err place) → OpensTo held (Ok last) → IfSome held (λ file. ⊥)
no_damage None last place read opens = tt
no_damage (Some file) last place read opens = let both : Err place ≡ Ok last = ap judged_all (sym read) ∙ opens in absurd (cc)

no_other : (held : Option (List ℕ)) (last : State) → IfSome held (λ file. begins_old file ≡ true) → OpensTo held (Ok last) → IfSome held (λ file. ⊥)
no_other None last old opens = tt
no_other (Some file) last old opens = opens_new file last opens old

-- the file wasn't read once more
pub not_reread : (last : State) (held : Option (List ℕ)) (faults later : ℕ) (f : OpenFault) → ((place : ℕ) → f ≡ fault.Damaged place → IfSome held (λ file. opened file ≡ Err place)) → (f ≡ fault.Fault → Rose faults later)
    → (f ≡ fault.OtherFormat → IfSome held (λ file. begins_old file ≡ true)) → OpensTo held (Ok last) → NotReread (end_of_open f) held faults later
not_reread last held faults later (fault.Damaged place) damaged rose other opens = no_damage held last place (damaged place refl) opens
not_reread last held faults later fault.Fault damaged rose other opens = rose refl
not_reread last held faults later fault.NoMemory damaged rose other opens = tt
not_reread last held faults later fault.OtherFormat damaged rose other opens = no_other held last (other refl) opens

-- there is a moment to find it at
pub found_at : (due : Result ℕ Refusal) (at : ℕ) (last : State) (held : Option (List ℕ)) (faults later : ℕ) (found : Result State Unasked) → due ≡ Ok at → FindsAt (Ok at) last held faults later found → FindsAt due last held faults later found
found_at due at last held faults later found is finds = rw is finds

-- there is none
pub no_moment : (due : Result ℕ Refusal) (why : Unreported) (last : State) (held : Option (List ℕ)) (faults later : ℕ) → Fails why due → IsErr due → FindsAt due last held faults later (Err (unasked.Unreported why))
no_moment (Ok at) why last held faults later fails refused = absurd (cc)
no_moment (Err r) unreported.Memory last held faults later fails refused = tt
no_moment (Err r) (unreported.Refused told) last held faults later fails refused = let is : told ≡ r = cc in is

-- ---- asking it

-- a refusal, by what is refused
pub told_same : (r s : Refusal) (end : End) (old new : Out) → r ≡ s → Told (λ due. due ≡ due_of (reply.Refused r)) end old new → Told (λ due. due ≡ due_of (reply.Refused s)) end old new
told_same r s end old new is told = subst (λ (x : Refusal). Told (λ due. due ≡ due_of (reply.Refused x)) end old new) is told

-- answering lines stopped
pub stopped : (s : State) (i i2 : In) (o o2 : Out) (why : Stop) → StopsTelling s i.left i2.left o.written o2.written o2.flushed why → (why ≡ stop.Input → Rose i.reads i2.reads) → (why ≡ stop.Output → Rose o.writes o2.writes)
    → AnswersLines s (end_of_stop why) i i2 o o2
stopped s i i2 o o2 stop.Memory stops input output = elim stops.ends [ ]
stopped s i i2 o o2 stop.Disk stops input output = elim stops.ends [ ]
stopped s i i2 o o2 stop.Input stops input output = (input refl, stops)
stopped s i i2 o o2 stop.Output stops input output = (output refl, stops)
stopped s i i2 o o2 stop.TooMuch stops input output = stops

-- what is asked of a registry
abbrev Asking : Type 1
Asking = State → End → In → In → Out → Out → Type 0

ends_then : (Asks : Asking) (due : Result ℕ Refusal) (last : State) (held : Option (List ℕ)) (faults later : ℕ) (found : Result State Unasked) (end : End) (i i2 : In) (o o2 : Out) → FindsAt due last held faults later found
    → AsksFound Asks found end i i2 o o2 → AsOfEnds Asks due last held faults later end i i2 o o2
ends_then Asks (Ok at) last held faults later (Ok s) end i i2 o o2 finds asks = inl (s, finds, asks)
ends_then Asks (Ok at) last held faults later (Err (unasked.Ended e)) end i i2 o o2 finds (taken, (is, wrote)) = inr (subst (λ (x : End). NotReread x held faults later) (sym is) finds, taken, wrote)
ends_then Asks (Ok at) last held faults later (Err (unasked.Unreported why)) end i i2 o o2 finds asks = absurd finds
ends_then Asks (Err r) last held faults later (Ok s) end i i2 o o2 finds asks = absurd finds
ends_then Asks (Err r) last held faults later (Err (unasked.Ended e)) end i i2 o o2 finds asks = absurd finds
ends_then Asks (Err r) last held faults later (Err (unasked.Unreported why)) end i i2 o o2 finds (taken, prints) = (taken, prints r finds)

-- what a run did that found it, and asked it
pub did_then : (d : Seen) (Asks : Asking) (text : List ℕ) (found : Result State Unasked) (end : End) (before after : World) → FindsEarlier d text before.held before.faults after.faults before.moments after.moments found
    → AsksFound Asks found end (input before) (input after) (output before) (output after) → SameNet before after → OverJournal d (DidAsOf d Asks text end before after) end before after
did_then d Asks text found end before after (inr (from, opens, finds)) asks net = inr (
  from,
  opens,
  record {
    now = finds.now;
    moment = finds.moment;
    ends = ends_then Asks _ from before.held before.faults after.faults found end (input before) (input after) (output before) (output after) finds.finds asks;
    clock = finds.clock;
    net = net;
    same = finds.same;
    disk = finds.disk (status_of end);
  },
)
did_then d Asks text (Ok s) end before after (inl none) asks net = absurd none
did_then d Asks text (Err (unasked.Ended e)) end before after (inl (cause, clock, same)) (taken, (is, wrote)) net = inl (record {
  cause = subst (λ (x : End). OpenCaused x before.held before.faults after.faults) (sym is) cause;
  input = (ap (λ (i : In). i.left) taken, ap (λ (i : In). i.reads) taken);
  output = (ap (λ (o : Out). o.written) wrote, ap (λ (o : Out). o.flushed) wrote, ap (λ (o : Out). o.writes) wrote);
  clock = clock;
  net = net;
  disk = same;
})
did_then d Asks text (Err (unasked.Unreported why)) end before after (inl none) asks net = absurd none
