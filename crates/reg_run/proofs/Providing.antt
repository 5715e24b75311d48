-- How `provision` ends, from how its parts did.
use Rattle.std.proofs.Common.{◌≡◌, ◌≤◌, ◌<◌, ◌^◌, ◌++◌, ◌∙◌, ◌⊎◌, [], List, ℕ, Bool, true, false, Option, Some, None, Ok, length, take, refl, ap, sym, subst, arith, inl, inr, append_assoc, append-nil}
use Rattle.std.specs.Prelude.{nat_le, codes, option_map}
use Rattle.std.specs.Io.KnownBytes.{append_known}
use Rattle.std.proofs.Math.Nat.{max-eq_left}
use Rattle.std.proofs.lemmas.Bool.{le-leb}
use Rattle.reg_base.specs.Names.{is_extension}
use Rattle.reg_base.specs.Entities.{entity_of}
use Rattle.reg_base.specs.declared.entity.Entity.{Entity}
use Rattle.reg_terms.specs.declared.command.Command.{Command}
use Rattle.reg_terms.specs.declared.command.Command.TheVariants.{ConsumerAck}
use Rattle.reg_terms.specs.declared.command.Stamped.{Stamped}
use Rattle.reg_terms.specs.declared.refusal.Refusal.{Refusal}
use Rattle.reg_terms.specs.declared.reply.Reply.{Reply}
use Rattle.reg_terms.specs.declared.reply.Reply.TheVariants as reply
use Rattle.reg_ops.specs.Forms.{has_form}
use Rattle.reg_machine.specs.History.{State, appended}
use Rattle.reg_machine.specs.Refusals.{refusal}
use Rattle.reg_service.specs.Kept.{Began}
use Rattle.reg_service.specs.Turn.{HasForm, Turns, at_moment, decided, last_reply, ordered, turn}
use Rattle.reg_service.specs.declared.service.Cause.{Cause}
use Rattle.reg_service.specs.declared.service.Cause.TheVariants as cause
use Rattle.reg_session.specs.Replies.{is_accepted}
use Rattle.reg_words.specs.declared.task.Provision.{Provision}
use Rattle.reg_report.specs.Delivered.{IsDelivered, place_at}
use Rattle.reg_report.specs.BatchLines.{place_line}
use Rattle.reg_run.specs.Crash.{IsWhole}
use Rattle.reg_run.specs.Once.{Printed, Put, TurnsOnce, end_of_reply}
use Rattle.reg_run.specs.Providing.{Acknowledges, DeliversAll, IsWithheld, MovesBehindLines, MovesPlace, Provides, StandFlushed, ack_line, ack_request}
use Rattle.reg_run.specs.Status.{status_of}
use Rattle.reg_run.specs.World.{Out}
use Rattle.reg_run.specs.declared.status.End.{End}
use Rattle.reg_run.specs.declared.status.End.TheVariants as the_end
use Rattle.reg_run.proofs.Loading.{once_whole}

-- ---- the acknowledgement

-- its fields have their forms, and it has no key
ack_fields : (consumer : List ℕ) (seq : ℕ) → is_extension consumer ≡ true → seq < 2 ^ 64 → has_form (ConsumerAck consumer seq) ≡ true
unfolding has_form
ack_fields consumer seq form small =
    let few : nat_le seq 18446744073709551615 ≡ true = le-leb seq 18446744073709551615 (omega arith) in
    let least : nat_le 0 seq ≡ true = le-leb 0 seq (omega arith) in
    rw (form, least, few) refl

pub ack_form : (consumer : List ℕ) (seq : ℕ) → is_extension consumer ≡ true → seq < 2 ^ 64 → HasForm (ack_request consumer seq)
ack_form consumer seq form small = record { fields = ack_fields consumer seq form small; key = refl }

-- a moment that isn't later than the clock leaves it
same_moment : (s : State) (m : ℕ) → m ≤ s.clock → at_moment s m ≡ s
same_moment s m le = ap (λ (c : ℕ). record { history = s.history; clock = c }) (max-eq_left le)

-- it is accepted and leads to one command more, or it is refused
abbrev is_ack : Reply → Bool
is_ack (reply.Number n id) = true
is_ack (reply.Loaded n counts) = false
is_ack (reply.Answer a) = false
is_ack (reply.Refused r) = true
is_ack reply.NoMemory = false
is_ack reply.KeepFault = false

decided_ack : (s : State) (by : Entity) (command : Command) (r : Option Refusal) → is_ack (decided s by None command r).0 ≡ true
decided_ack s by command None = refl
decided_ack s by command (Some r) = refl

ordered_ack : (s : State) (by : Option Entity) (command : Command) → is_ack (ordered s by None command).0 ≡ true
ordered_ack s None command = refl
ordered_ack s (Some by) command = decided_ack s by command (refusal s.history s.clock by command)

turn_ack : (s : State) (m : ℕ) (consumer : List ℕ) (seq : ℕ) → is_ack (turn s m (Ok (ack_request consumer seq))).0 ≡ true
turn_ack s m consumer seq = ordered_ack (at_moment s m) (entity_of (codes "g:isa/GrouperSystem")) (ConsumerAck consumer seq)

abbrev Leads : State → Command → Reply × State → Type 0
Leads s command (given, after) = ((is_accepted given ≡ false) × (after.history ≡ s.history)) ⊎ ((by : Entity) × (after ≡ appended s by None command))

decided_leads : (s : State) (by : Entity) (command : Command) (r : Option Refusal) → Leads s command (decided s by None command r)
decided_leads s by command None = inr (by, refl)
decided_leads s by command (Some r) = inl (refl, refl)

ordered_leads : (s : State) (by : Option Entity) (command : Command) → Leads s command (ordered s by None command)
ordered_leads s None command = inl (refl, refl)
ordered_leads s (Some by) command = decided_leads s by command (refusal s.history s.clock by command)

turn_leads : (s : State) (m : ℕ) (consumer : List ℕ) (seq : ℕ) → Leads (at_moment s m) (ConsumerAck consumer seq) (turn s m (Ok (ack_request consumer seq)))
turn_leads s m consumer seq = ordered_leads (at_moment s m) (entity_of (codes "g:isa/GrouperSystem")) (ConsumerAck consumer seq)

lead_state : (s last : State) (command : Command) (given : Reply) → Leads s command (given, last) → is_accepted given ≡ true → (by : Entity) × (last ≡ appended s by None command)
lead_state s last command given (inl p) took = let no : is_accepted given ≡ false = p.0 in absurd (cc)
lead_state s last command given (inr p) took = p

-- where it is accepted, the state after it has it more
pub accepted_state : (s last : State) (m : ℕ) (consumer : List ℕ) (seq : ℕ) (given : Reply) → m ≤ s.clock → Turns s m (Ok (ack_request consumer seq)) given last → is_accepted given ≡ true → (by : Entity) × (last ≡ appended s by None (ConsumerAck consumer seq))
accepted_state s last m consumer seq given le (inl e) took =
    let lead : Leads (at_moment s m) (ConsumerAck consumer seq) (given, last) = subst (λ (p : Reply × State). Leads (at_moment s m) (ConsumerAck consumer seq) p) (sym e) (turn_leads s m consumer seq) in
    let more = lead_state (at_moment s m) last (ConsumerAck consumer seq) given lead took in
    (more.0, more.1 ∙ ap (λ (x : State). appended x more.0 None (ConsumerAck consumer seq)) (same_moment s m le))
accepted_state s last m consumer seq given le (inr wants) took = let no : is_accepted given ≡ false = ap is_accepted wants.fault in absurd (cc)

-- where the service stopped, it wasn't accepted
pub stopped_not : (why : Cause) (given : Reply) → given ≡ last_reply why → is_accepted given ≡ true → ⊥
stopped_not cause.Memory given is took = let no : is_accepted given ≡ false = ap is_accepted is in absurd (cc)
stopped_not cause.Disk given is took = let no : is_accepted given ≡ false = ap is_accepted is in absurd (cc)

-- the history after it is the one before, or has it more
leads_moves : (s : State) (consumer : List ℕ) (seq : ℕ) (p : Reply × State) → Leads s (ConsumerAck consumer seq) p → (p.1.history ≡ s.history) ⊎ MovesPlace s.history consumer seq p.1.history
leads_moves s consumer seq (given, after) (inl lead) = inl lead.1
leads_moves s consumer seq (given, after) (inr lead) = inr (record { at = s.clock; by = lead.0; key = None; command = ConsumerAck consumer seq }, refl, ap (λ (x : State). x.history) lead.1)

moves_by : (before : List Stamped) (consumer : List ℕ) (seq : ℕ) (other history : List Stamped) → history ≡ other → (other ≡ before) ⊎ MovesPlace before consumer seq other → (history ≡ before) ⊎ MovesPlace before consumer seq history
moves_by before consumer seq other history is moves = subst (λ (x : List Stamped). (x ≡ before) ⊎ MovesPlace before consumer seq x) (sym is) moves

turn_moves : (s : State) (m : ℕ) (consumer : List ℕ) (seq : ℕ) → ((turn s m (Ok (ack_request consumer seq))).1.history ≡ s.history) ⊎ MovesPlace s.history consumer seq (turn s m (Ok (ack_request consumer seq))).1.history
turn_moves s m consumer seq = leads_moves (at_moment s m) consumer seq (turn s m (Ok (ack_request consumer seq))) (turn_leads s m consumer seq)

turns_moves : (s last : State) (m : ℕ) (consumer : List ℕ) (seq : ℕ) (given : Reply) → Turns s m (Ok (ack_request consumer seq)) given last → (last.history ≡ s.history) ⊎ MovesPlace s.history consumer seq last.history
turns_moves s last m consumer seq given (inl e) = moves_by s.history consumer seq (turn s m (Ok (ack_request consumer seq))).1.history last.history (ap (λ (p : Reply × State). p.1.history) e) (turn_moves s m consumer seq)
turns_moves s last m consumer seq given (inr wants) = inl wants.history

kept_moves : (s : State) (m : ℕ) (consumer : List ℕ) (seq : ℕ) (kept : List Stamped) → (kept ≡ s.history) ⊎ (kept ≡ (turn s m (Ok (ack_request consumer seq))).1.history) → (kept ≡ s.history) ⊎ MovesPlace s.history consumer seq kept
kept_moves s m consumer seq kept (inl e) = inl e
kept_moves s m consumer seq kept (inr e) = moves_by s.history consumer seq (turn s m (Ok (ack_request consumer seq))).1.history kept e (turn_moves s m consumer seq)

once_moves : (s : State) (m : ℕ) (consumer : List ℕ) (seq : ℕ) (given : Reply) (answered kept : List Stamped) → TurnsOnce s m (Ok (ack_request consumer seq)) given answered kept → (kept ≡ s.history) ⊎ MovesPlace s.history consumer seq kept
once_moves s m consumer seq given answered kept (inl t) = moves_by s.history consumer seq t.0.history kept t.3 (turns_moves s t.0 m consumer seq given t.1)
once_moves s m consumer seq given answered kept (inr (inl t)) = inl t.2
once_moves s m consumer seq given answered kept (inr (inr t)) = kept_moves s m consumer seq kept t.2

-- where it ends well, it was accepted
turns_ack : (s last : State) (m : ℕ) (consumer : List ℕ) (seq : ℕ) (given : Reply) → Turns s m (Ok (ack_request consumer seq)) given last → end_of_reply given ≡ the_end.Done → is_ack given ≡ true
turns_ack s last m consumer seq given (inl e) done = ap (λ (p : Reply × State). is_ack p.0) e ∙ turn_ack s m consumer seq
turns_ack s last m consumer seq given (inr wants) done = let both : the_end.Memory ≡ the_end.Done = sym (ap end_of_reply wants.fault) ∙ done in absurd (cc)

once_ack : (s : State) (m : ℕ) (consumer : List ℕ) (seq : ℕ) (given : Reply) (answered kept : List Stamped) → TurnsOnce s m (Ok (ack_request consumer seq)) given answered kept → end_of_reply given ≡ the_end.Done
    → (is_ack given ≡ true) × (answered ≡ kept)
once_ack s m consumer seq given answered kept (inl t) done = (turns_ack s t.0 m consumer seq given t.1 done, t.2 ∙ sym t.3)
once_ack s m consumer seq given answered kept (inr (inl t)) done = let both : the_end.Memory ≡ the_end.Done = sym (ap end_of_reply t.0) ∙ done in absurd (cc)
once_ack s m consumer seq given answered kept (inr (inr t)) done = let both : the_end.Disk ≡ the_end.Done = sym (ap end_of_reply t.0) ∙ done in absurd (cc)

number_of : (given : Reply) → is_ack given ≡ true → end_of_reply given ≡ the_end.Done → (n : ℕ) × (id : Option ℕ) × (given ≡ reply.Number n id)
number_of (reply.Number n id) ack done = (n, id, refl)
number_of (reply.Loaded n counts) ack done = absurd (cc)
number_of (reply.Answer a) ack done = absurd (cc)
number_of (reply.Refused r) ack done = absurd (cc)
number_of reply.NoMemory ack done = absurd (cc)
number_of reply.KeepFault ack done = absurd (cc)

-- ---- the output

append_more : (o : Option (List ℕ)) (a b : List ℕ) → append_known (append_known o a) b ≡ append_known o (a ++ b)
append_more None a b = refl
append_more (Some bytes) a b = ap Some (append_assoc bytes a b)

behind_more : (lines bytes : List ℕ) (old mid new : Option (List ℕ)) → mid ≡ append_known old lines → new ≡ append_known mid bytes → new ≡ append_known old (lines ++ bytes)
behind_more lines bytes old mid new first second = second ∙ (ap (λ (o : Option (List ℕ)). append_known o bytes) first ∙ append_more old lines bytes)

behind_none : (lines : List ℕ) (old mid : Option (List ℕ)) → mid ≡ append_known old lines → mid ≡ append_known old (lines ++ [])
behind_none lines old mid first = first ∙ ap (append_known old) (sym (append-nil lines))

-- lines that were flushed stay so, whatever is printed behind them
stand_flushed : (lines bytes : List ℕ) (good end : End) (old mid new : Out) → mid.written ≡ append_known old.written lines → mid.flushed ≡ option_map length mid.written → Printed good bytes end mid new → StandFlushed lines old new
stand_flushed lines bytes good end old mid new wrote flushed (inl (inl p)) =
    let all = behind_more lines bytes old.written mid.written new.written wrote p.1 in
    ((bytes, all), (bytes, p.2 ∙ ap (option_map length) all))
stand_flushed lines bytes good end old mid new wrote flushed (inl (inr p)) =
    let front = p.2 in (
      (take front.0 bytes, behind_more lines (take front.0 bytes) old.written mid.written new.written wrote front.2),
      ([], p.3 ∙ (flushed ∙ ap (option_map length) (behind_none lines old.written mid.written wrote))),
    )
stand_flushed lines bytes good end old mid new wrote flushed (inr p) =
    let whole = behind_none lines old.written mid.written wrote in
    (([], ap (λ (o : Out). o.written) p.1 ∙ whole), ([], ap (λ (o : Out). o.flushed) p.1 ∙ (flushed ∙ ap (option_map length) whole)))

-- what is printed and ends well stands there
done_good : (good end : End) (bytes : List ℕ) (old new : Out) → Printed good bytes end old new → end ≡ the_end.Done → (good ≡ the_end.Done) × (new.written ≡ append_known old.written bytes) × (new.flushed ≡ option_map length new.written)
done_good good end bytes old new (inl (inl p)) is = (sym p.0 ∙ is, p.1, p.2)
done_good good end bytes old new (inl (inr p)) is = let both : the_end.Output ≡ the_end.Done = sym p.0 ∙ is in absurd (cc)
done_good good end bytes old new (inr p) is = let both : the_end.Memory ≡ the_end.Done = sym p.0 ∙ is in absurd (cc)

-- and ends for the disk only where that was told
pub printed_disk : (good end : End) (bytes : List ℕ) (old new : Out) → Printed good bytes end old new → end ≡ the_end.Disk → good ≡ the_end.Disk
printed_disk good end bytes old new (inl (inl p)) is = sym p.0 ∙ is
printed_disk good end bytes old new (inl (inr p)) is = let both : the_end.Output ≡ the_end.Disk = sym p.0 ∙ is in absurd (cc)
printed_disk good end bytes old new (inr p) is = let both : the_end.Memory ≡ the_end.Disk = sym p.0 ∙ is in absurd (cc)

pub put_disk : (good end : End) (bytes : List ℕ) (old new : Out) → Put good bytes end old new → end ≡ the_end.Disk → good ≡ the_end.Disk
put_disk good end bytes old new (inl p) is = sym p.0 ∙ is
put_disk good end bytes old new (inr p) is = let both : the_end.Output ≡ the_end.Disk = sym p.0 ∙ is in absurd (cc)

-- ---- each status

lines_move : (asked : Provision) (s : State) (place last : ℕ) (lines : List ℕ) (kept : List Stamped) (old new : Out) → IsDelivered asked s place last lines → (kept ≡ s.history) ⊎ MovesPlace s.history asked.consumer last kept
    → StandFlushed lines old new → MovesBehindLines asked s kept old new
lines_move asked s place last lines kept old new those (inl e) stand = inl e
lines_move asked s place last lines kept old new those (inr moves) stand = inr (place, last, lines, those, moves, stand)

-- the place is moved behind lines alone
pub provides_moves : (asked : Provision) (s : State) (at : ℕ) (end : End) (answered kept : List Stamped) (old new : Out) → Provides asked s at end answered kept old new → MovesBehindLines asked s kept old new
provides_moves asked s at end answered kept old new (inl (keeps, rest)) = inl keeps.1
provides_moves asked s at end answered kept old new (inr (place, last, lines, those, inl broke)) = inl broke.0.1
provides_moves asked s at end answered kept old new (inr (place, last, lines, those, inr (mid, wrote, flushed, inl (less, a)))) =
    lines_move asked s place last lines kept old new those (once_moves s at asked.consumer last a.told answered kept a.turn) (stand_flushed lines (ack_line (place_line last) a.told) (end_of_reply a.told) end old mid new wrote flushed a.printed)
provides_moves asked s at end answered kept old new (inr (place, last, lines, those, inr (mid, wrote, flushed, inr (same, keeps, put)))) = inl keeps.1

-- ---- status 0

withheld_ill : (asked : Provision) (s : State) (given : Reply) → IsWithheld asked s given → end_of_reply given ≡ the_end.Done → ⊥
withheld_ill asked s given (inl p) done = let both : the_end.Refused ≡ the_end.Done = sym (ap end_of_reply p.2) ∙ done in absurd (cc)
withheld_ill asked s given (inr e) done = let both : the_end.Memory ≡ the_end.Done = sym (ap end_of_reply e) ∙ done in absurd (cc)

ack_all : (asked : Provision) (s : State) (at place last : ℕ) (lines : List ℕ) (end : End) (answered kept : List Stamped) (old mid new : Out) → IsDelivered asked s place last lines → mid.written ≡ append_known old.written lines
    → Acknowledges s at asked.consumer last end answered kept mid new → end ≡ the_end.Done → DeliversAll asked s kept old new
ack_all asked s at place last lines end answered kept old mid new those wrote a is =
    let good = done_good (end_of_reply a.told) end (ack_line (place_line last) a.told) mid new a.printed is in
    let done = once_ack s at asked.consumer last a.told answered kept a.turn good.0 in
    let number = number_of a.told done.0 good.0 in
    let told : new.written ≡ append_known mid.written (place_line last) = good.1 ∙ ap (λ (r : Reply). append_known mid.written (ack_line (place_line last) r)) number.2 in
    record {
      place = place;
      last = last;
      lines = lines;
      those = those;
      written = behind_more lines (place_line last) old.written mid.written new.written wrote told;
      flushed = good.2;
      acknowledged = subst (λ (h : List Stamped). place_at h s.clock asked.consumer ≡ Some last) done.1 (a.moved (ap is_accepted number.2));
    }

none_all : (asked : Provision) (s : State) (place last : ℕ) (lines : List ℕ) (end : End) (kept : List Stamped) (old mid new : Out) → IsDelivered asked s place last lines → mid.written ≡ append_known old.written lines
    → last ≡ place → kept ≡ s.history → Put the_end.Done (place_line last) end mid new → end ≡ the_end.Done → DeliversAll asked s kept old new
none_all asked s place last lines end kept old mid new those wrote same keeps put is =
    let good = done_good the_end.Done end (place_line last) mid new (inl put) is in
    record {
      place = place;
      last = last;
      lines = lines;
      those = those;
      written = behind_more lines (place_line last) old.written mid.written new.written wrote good.1;
      flushed = good.2;
      acknowledged = subst (λ (h : List Stamped). place_at h s.clock asked.consumer ≡ Some last) (sym keeps) (those.stands ∙ ap Some (sym same));
    }

-- all was written, and the place is the end
pub provides_all : (asked : Provision) (s : State) (at : ℕ) (end : End) (answered kept : List Stamped) (old new : Out) → Provides asked s at end answered kept old new → end ≡ the_end.Done → DeliversAll asked s kept old new
provides_all asked s at end answered kept old new (inl (keeps, (given, withheld, printed))) is = absurd (withheld_ill asked s given withheld (done_good (end_of_reply given) end _ old new printed is).0)
provides_all asked s at end answered kept old new (inr (place, last, lines, those, inl broke)) is = let both : the_end.Output ≡ the_end.Done = sym broke.1 ∙ is in absurd (cc)
provides_all asked s at end answered kept old new (inr (place, last, lines, those, inr (mid, wrote, flushed, inl (less, a)))) is = ack_all asked s at place last lines end answered kept old mid new those wrote a is
provides_all asked s at end answered kept old new (inr (place, last, lines, those, inr (mid, wrote, flushed, inr (same, keeps, put)))) is = none_all asked s place last lines end kept old mid new those wrote same keeps.1 put is

-- ---- the end

-- where the run is whole, all that was accepted was answered
pub provides_whole : (asked : Provision) (s : State) (at : ℕ) (end : End) (answered kept : List Stamped) (old new : Out) → Provides asked s at end answered kept old new → IsWhole (status_of end) → answered ≡ kept
provides_whole asked s at end answered kept old new (inl (keeps, rest)) whole = keeps.0 ∙ sym keeps.1
provides_whole asked s at end answered kept old new (inr (place, last, lines, those, inl broke)) whole = broke.0.0 ∙ sym broke.0.1
provides_whole asked s at end answered kept old new (inr (place, last, lines, those, inr (mid, wrote, flushed, inl (less, a)))) whole =
    once_whole s at (Ok (ack_request asked.consumer last)) a.told _ end mid new answered kept a.turn a.printed whole
provides_whole asked s at end answered kept old new (inr (place, last, lines, those, inr (mid, wrote, flushed, inr (same, keeps, put)))) whole = keeps.0 ∙ sym keeps.1

-- what was answered and kept, counted from the history on
pub provides_ends : (asked : Provision) (s : State) (at : ℕ) (end : End) (before more : List Stamped) (n : ℕ) (answered kept : List Stamped) (old new : Out) → before ++ take n more ≡ answered → kept ≡ before ++ more
    → Provides asked s at end answered kept old new → Provides asked s at end (before ++ take n more) (before ++ more) old new
provides_ends asked s at end before more n answered kept old new front grown ends =
    subst (λ (l : List Stamped). Provides asked s at end (before ++ take n more) l old new) grown
    (subst (λ (l : List Stamped). Provides asked s at end l kept old new) (sym front) ends)

-- a stop for want of memory began nothing
pub began_same : (why : Cause) (before after : List Stamped) → Began why before before after → after ≡ before
began_same cause.Memory before after e = e
began_same cause.Disk before after (inl e) = e
began_same cause.Disk before after (inr e) = e
