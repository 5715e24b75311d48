-- That the responses of a connection keep up, from message to message.
use Rattle.std.proofs.Common.{◌≡◌, ◌≤◌, ◌+◌, ◌^◌, ◌++◌, ◌∷◌, [], List, ℕ, Bool, Option, Some, None, true, false, Result, Ok, Err, refl, ap, sym, subst, ◌∙◌, inl, inr, arith, length, option_map, append-nil}
use Rattle.std.specs.Prelude.{IfSome, IfOk, IfErr, if◌then◌else◌}
use Rattle.std.specs.Io.KnownBytes.{append_known, prepend_known}
use Rattle.std.proofs.lemmas.List.{take_all}
use Rattle.std.proofs.lemmas.List.Elements.{All-nil, All-cons}
use Rattle.reg_outside.specs.Marks.{Mark, marked}
use Rattle.reg_outside.specs.Streams.{WritesFront}
use Rattle.reg_base.specs.Entities.{entity_of}
use Rattle.reg_base.specs.declared.entity.Entity.{Entity}
use Rattle.reg_terms.specs.declared.command.Command.{Command}
use Rattle.reg_terms.specs.declared.command.Stamped.{Stamped}
use Rattle.reg_terms.specs.declared.query.Answer as terms
use Rattle.reg_terms.specs.declared.refusal.Refusal.{Refusal}
use Rattle.reg_terms.specs.declared.refusal.Refusal.TheVariants.{OtherCommand}
use Rattle.reg_terms.specs.declared.reply.LoadCounts.{LoadCounts}
use Rattle.reg_terms.specs.declared.reply.Reply.{Reply}
use Rattle.reg_terms.specs.declared.reply.Reply.TheVariants as reply
use Rattle.reg_terms.specs.declared.request.Op.{Op}
use Rattle.reg_terms.specs.declared.request.Op.TheVariants as op
use Rattle.reg_terms.specs.declared.request.Request.{Request}
use Rattle.reg_machine.specs.History.{State}
use Rattle.reg_machine.specs.Keys.{KeptCommand, keyed, same_command}
use Rattle.reg_machine.specs.Loads.{load_outcome}
use Rattle.reg_machine.specs.Refusals.{refusal}
use Rattle.reg_view.specs.AtClock.{told}
use Rattle.reg_keep.specs.declared.keeper.Keeper.{Ghosts}
use Rattle.reg_service.specs.Kept.{KeptOn}
use Rattle.reg_service.specs.Marked.{keeps_up_none, keeps_up_one, part_keeps_up_then, part_of_whole}
use Rattle.reg_service.specs.Marks.{IsMarked, KeepsUp, KeepsUpBy, KeepsUpInPart, Output, Writing, WritesAll, number_of}
use Rattle.reg_service.specs.Opening.{Served, payloads_of}
use Rattle.reg_service.specs.Turn.{answered, answered_again, at_moment, decided, load_ordered, loaded, ordered, ordered_again, ordered_by, requested, turn, Turns, last_reply}
use Rattle.reg_service.specs.declared.service.Cause.{Cause}
use Rattle.reg_service.specs.declared.service.Cause.TheVariants as cause
use Rattle.reg_service.specs.declared.service.Next.{Next}
use Rattle.reg_service.specs.declared.service.Next.TheVariants as next
use Rattle.reg_session.specs.Answered.{Point}
use Rattle.reg_session.specs.Replies.{IsShown}
use Rattle.reg_session.proofs.Numbering.{keyed_within}
use Rattle.reg_http.specs.Runs.{HasGiven}
use Rattle.reg_http.specs.Turns.{Reading, GivesTurn, start, fed}
use Rattle.reg_http.specs.declared.call.Call.{Call}
use Rattle.reg_http.specs.declared.call.Turn.{Turn}
use Rattle.reg_calls.specs.Asked.{closes_by}
use Rattle.reg_calls.specs.Responses.{response_to, fault_response}
use Rattle.reg_calls.specs.declared.asked.Asked.{Asked}
use Rattle.reg_serve.specs.Answered.{MayReply, Outcome, Question, goes, last_response, reads, refuses, stops}
use Rattle.reg_serve.specs.Keeping.{IsLeft, TurnLeaves}
use Rattle.reg_serve.specs.KeepingUp.{IsResponse, KeepsUpOn, KeepsUpTo, ReadKeepsUp, RestsKeepUp, TurnKeepsUp, TurnsKeepUp}
use Rattle.reg_serve.specs.Sent.{Finishes, SentFault, SentFaultFront}
use Rattle.reg_serve.specs.Sessions.{HasServed, Serves}
use Rattle.reg_serve.specs.declared.ended.Ended.{Ended}
use Rattle.reg_serve.specs.declared.ended.Ended.TheVariants as ended
use Rattle.reg_serve.proofs.Answering.{front_none}
use Rattle.reg_serve.proofs.Turning.{FedLaw, ends_behind, fails_turn, session_first, session_piece, session_rests}

-- ---- the number that a reply tells

-- it is a command's of this history
abbrev IsOf : List Stamped → Reply → Type 0
IsOf history told = IfSome (number_of told) (λ n. n ≤ length history)

decided_of : (s : State) (by : Entity) (key : Option (List ℕ)) (command : Command) (r : Option Refusal) → IsOf (decided s by key command r).1.history (decided s by key command r).0
decided_of s by key command None = omega arith
decided_of s by key command (Some r) = tt

again_of : (s : State) (kept : KeptCommand) (command : Command) → kept.number ≤ length s.history → IsOf s.history (answered_again kept command)
again_of s kept command within =
    elim (same_command kept.command command) as (λ (b : Bool). IsOf s.history (if b then reply.Number kept.number kept.id else reply.Refused (OtherCommand kept.number))) [
      | true ↦ within
      | false ↦ tt
    ]

keyed_of : (s : State) (by : Entity) (key : List ℕ) (command : Command) (kept : Option KeptCommand) → keyed s.history by key ≡ kept → IsOf (ordered_again s by key command kept).1.history (ordered_again s by key command kept).0
keyed_of s by key command None is = decided_of s by (Some key) command (refusal s.history s.clock by command)
keyed_of s by key command (Some kept) is = again_of s kept command (keyed_within s.history by key kept is)

known_of : (s : State) (by : Entity) (key : Option (List ℕ)) (command : Command) → IsOf (ordered_by s by key command).1.history (ordered_by s by key command).0
known_of s by None command = decided_of s by None command (refusal s.history s.clock by command)
known_of s by (Some key) command = keyed_of s by key command (keyed s.history by key) refl

ordered_of : (s : State) (by : Option Entity) (key : Option (List ℕ)) (command : Command) → IsOf (ordered s by key command).1.history (ordered s by key command).0
ordered_of s None key command = tt
ordered_of s (Some by) key command = known_of s by key command

loaded_of : (s : State) (by : Entity) (plan : Result (Command × LoadCounts) Refusal) → IsOf (loaded s by plan).1.history (loaded s by plan).0
loaded_of s by (Ok plan) = omega arith
loaded_of s by (Err r) = tt

load_of : (s : State) (by : Option Entity) (job table : List ℕ) → IsOf (load_ordered s by job table).1.history (load_ordered s by job table).0
load_of s None job table = tt
load_of s (Some by) job table = loaded_of s by (load_outcome s.history s.clock by job table)

answered_of : (history : List Stamped) (r : Result terms.Answer Refusal) → IsOf history (answered r)
answered_of history (Ok a) = tt
answered_of history (Err r) = tt

requested_of : (s : State) (by : List ℕ) (key : Option (List ℕ)) (asked : Op) → IsOf (requested s by key asked).1.history (requested s by key asked).0
requested_of s by key (op.Command command) = ordered_of s (entity_of by) key command
requested_of s by key (op.Query query) = answered_of s.history (told s.history s.clock by query)
requested_of s by key (op.Load job table) = load_of s (entity_of by) job table

turn_of : (s : State) (m : ℕ) (reading : Result Request Refusal) → IsOf (turn s m reading).1.history (turn s m reading).0
turn_of s m (Ok request) = requested_of (at_moment s m) request.by request.key request.op
turn_of s m (Err r) = tt

turns_of : (s after : State) (m : ℕ) (reading : Result Request Refusal) (given : Reply) → Turns s m reading given after → IsOf after.history given
turns_of s after m reading given (inl e) = subst (λ (p : Reply × State). IsOf p.1.history p.0) (sym e) (turn_of s m reading)
turns_of s after m reading given (inr wants) = rw wants.fault tt

shown_of : (history : List Stamped) (due shown : Reply) → IsOf history due → IsShown due shown → IsOf history shown
shown_of history due shown of (inl e) = rw e of
shown_of history due shown of (inr e) = rw e.0 tt

pub may_of : (s after : State) (q : Question) (at : List ℕ) (given : Reply) → MayReply s q at given after → IsOf after.history given
may_of s after (refuses r) at given m = shown_of after.history (reply.Refused r) given tt m.2
may_of s after (reads reading) at given m = turns_of s after m.0 reading given m.2

-- ---- one response

response : (a : Asked) (close : Bool) (shown : Reply) → IsResponse (record { text = response_to a close shown; number = number_of shown })
response a close shown = record { told = shown; numbered = refl; text = inl (a, close, refl) }

-- this moment has come, and each stop since then leaves the history of a service
pub record IsKept {K : Type 0} (g : Ghosts K) (moment : ℕ) (s : Served K) : Type 0 where
  pub past : moment ≤ g.keep_moment s.keeper
  pub leaves : (r : Result (List (List ℕ)) ℕ) → g.stopped_since s.keeper moment r → r ≡ Ok (payloads_of s.state.history)

-- behind a mark of this moment
response_up : (W : Option (List ℕ) → Option (List ℕ) → List ℕ → Type 0) {K : Type 0} (g : Ghosts K) (first : K) (moment : ℕ) (s : Served K) (w w2 : Option (List ℕ)) (ms ms2 : Option (List Mark)) (a : Asked) (close : Bool) (due shown : Reply)
    → IsOf s.state.history due → IsKept g moment s → ms2 ≡ option_map (marked moment w) ms → IsShown due shown → W w w2 (response_to a close shown)
    → KeepsUpBy W g IsResponse first (record { written = w; marks = ms }) (record { written = w2; marks = ms2 }) s.state.history s.keeper
response_up W g first moment s w w2 ms ms2 a close due shown of kept set shows wrote =
    keeps_up_one W g IsResponse first s.keeper s.state.history (record { written = w; marks = ms }) (record { written = w2; marks = ms2 }) (record { text = response_to a close shown; number = number_of shown }) moment
    (response a close shown) wrote set (with_law (number_of shown) (shown_of s.state.history due shown of shows))
  where
    with_law : (o : Option ℕ) → IfSome o (λ n. n ≤ length s.state.history)
        → IfSome o (λ n. (n ≤ length s.state.history) × (moment ≤ g.keep_moment s.keeper) × ((r : Result (List (List ℕ)) ℕ) → g.stopped_since s.keeper moment r → r ≡ Ok (payloads_of s.state.history)))
    with_law None is = tt
    with_law (Some n) is = (is, kept.past, kept.leaves)

-- one that acknowledges nothing needs no mark
silent_up : {K : Type 0} (g : Ghosts K) (first k : K) (history : List Stamped) (old new : Output) (w : Writing) → IsResponse w → w.number ≡ None → WritesFront old.written new.written w.text → new.marks ≡ old.marks
    → KeepsUpInPart g IsResponse first old new history k
silent_up g first k history old new w is none wrote same = record {
  writings = w ∷ [];
  replies = All-cons IsResponse w [] is (All-nil IsResponse);
  text = subst (WritesFront old.written new.written) (sym (append-nil w.text)) wrote;
  more = [];
  set = same ∙ unchanged old.marks;
  marked = silent (λ bytes ms. IsMarked g k history ms (length bytes)) (g.payloads first) old.written new.marks;
}
  where
    unchanged : (o : Option (List Mark)) → o ≡ option_map (λ ms. ms ++ []) o
    unchanged None = refl
    unchanged (Some ms) = ap (λ (l : List Mark). Some l) (sym (append-nil ms))

    silent : (P : List ℕ → List Mark → ℕ → Type 0) (p : Option (List (List ℕ))) (o : Option (List ℕ)) (m : Option (List Mark)) → IfSome p (λ ps. IfSome o (λ bytes. IfSome m (λ ms. IfSome w.number (P bytes ms) × Unit {0})))
    silent P None o m = tt
    silent P (Some ps) None m = tt
    silent P (Some ps) (Some bytes) None = tt
    silent P (Some ps) (Some bytes) (Some ms) = (rw none tt, tt)

-- nothing was written
pub quiet_up : {K : Type 0} (g : Ghosts K) (first k : K) (history : List Stamped) (old new : Output) → new.written ≡ old.written → new.marks ≡ old.marks → KeepsUpInPart g IsResponse first old new history k
quiet_up g first k history old new bytes same = part_of_whole g IsResponse first k history old new (keeps_up_none g IsResponse first k history old new bytes same)

-- nor was anything since
pub up_still : {K : Type 0} (g : Ghosts K) (first k : K) (history : List Stamped) (o0 o1 o2 : Output) → o2.written ≡ o1.written → o2.marks ≡ o1.marks → KeepsUp g IsResponse first o0 o1 history k → KeepsUpInPart g IsResponse first o0 o2 history k
up_still g first k history o0 o1 o2 bytes same a =
    let part = part_of_whole g IsResponse first k history o0 o1 a in
    record {
      writings = part.writings;
      replies = part.replies;
      text = rw bytes part.text;
      more = part.more;
      set = same ∙ part.set;
      marked = rw same part.marked;
    }

-- ---- a message

-- after a response the service goes on
pub finishes_up : {K : Type 0} (g : Ghosts K) (first : K) (moment : ℕ) (w w2 : Option (List ℕ)) (ms ms2 : Option (List Mark)) (s : Served K) (a : Asked) (call : Call) (due : Reply) (r : Result (Served K) (Ended × Next K)) → IsOf s.state.history due → IsKept g moment s
    → ms2 ≡ option_map (marked moment w) ms → Finishes a call due w w2 s r → IfOk r (λ (after : Served K). KeepsUpOn g first (record { written = w; marks = ms }) (record { written = w2; marks = ms2 }) after)
finishes_up g first moment w w2 ms ms2 s a call due (Ok after) of kept set f = rw f.0 (response_up WritesAll g first moment s w w2 ms ms2 a false due f.2.0 of kept set f.2.1 f.2.2)
finishes_up g first moment w w2 ms ms2 s a call due (Err e) of kept set f = tt

-- or the connection ends
finishes_part : {K : Type 0} (g : Ghosts K) (first : K) (moment : ℕ) (w w2 : Option (List ℕ)) (ms ms2 : Option (List Mark)) (s : Served K) (a : Asked) (call : Call) (due : Reply) (e : Ended × Next K) → IsOf s.state.history due → IsKept g moment s
    → ms2 ≡ option_map (marked moment w) ms → Finishes a call due w w2 s (Err e)
    → (e.1 ≡ next.Go s) × KeepsUpInPart g IsResponse first (record { written = w; marks = ms }) (record { written = w2; marks = ms2 }) s.state.history s.keeper
finishes_part g first moment w w2 ms ms2 s a call due (ended.Closed, n) of kept set f =
    (f.0, part_of_whole g IsResponse first s.keeper s.state.history (record { written = w; marks = ms }) (record { written = w2; marks = ms2 }) (response_up WritesAll g first moment s w w2 ms ms2 a true due f.2.0 of kept set f.2.1 f.2.2))
finishes_part g first moment w w2 ms ms2 s a call due (ended.Failed, n) of kept set f = (f.0, response_up WritesFront g first moment s w w2 ms ms2 a (closes_by a call) due f.1.0 of kept set f.1.1 f.1.2)
finishes_part g first moment w w2 ms ms2 s a call due (ended.NoMemory, n) of kept set f =
    (f.0, response_up WritesFront g first moment s w w2 ms ms2 a (closes_by a call) due due of kept set (inl refl) (front_none w w2 (response_to a (closes_by a call) due) f.2))
finishes_part g first moment w w2 ms ms2 s a call due (ended.Silent, n) of kept set f = absurd f
finishes_part g first moment w w2 ms ms2 s a call due (ended.Bad, n) of kept set f = absurd f
finishes_part g first moment w w2 ms ms2 s a call due (ended.TooMuch, n) of kept set f = absurd f
finishes_part g first moment w w2 ms ms2 s a call due (ended.Stopped, n) of kept set f = absurd f

up_go : {K : Type 0} (g : Ghosts K) (first : K) (old new : Output) (n : Next K) (to : Outcome) (s : Served K) → n ≡ next.Go s → KeepsUpInPart g IsResponse first old new s.state.history s.keeper → KeepsUpTo g first old new n to
up_go g first old new n to s is up = rw is up

pub finishes_up_to : {K : Type 0} (g : Ghosts K) (first : K) (moment : ℕ) (p : Point) (later : Option (List ℕ)) (w w2 : Option (List ℕ)) (ms ms2 : Option (List Mark)) (s : Served K) (a : Asked) (call : Call) (t : Turn) (due : Reply) (r : Result (Served K) (Ended × Next K))
    → IsOf s.state.history due → IsKept g moment s → ms2 ≡ option_map (marked moment w) ms → Finishes a call due w w2 s r → IfErr r (λ (e : Ended × Next K). TurnLeaves g p first t w2 later e)
    → IfErr r (λ (e : Ended × Next K). TurnKeepsUp g p first t (record { written = w; marks = ms }) (record { written = w2; marks = ms2 }) later e)
finishes_up_to g first moment p later w w2 ms ms2 s a call t due (Ok after) of kept set f left = tt
finishes_up_to g first moment p later w w2 ms ms2 s a call t due (Err e) of kept set f left =
    let part = finishes_part g first moment w w2 ms ms2 s a call due e of kept set f in
    (left, up_go g first (record { written = w; marks = ms }) (record { written = w2; marks = ms2 }) e.1 left.to s part.0 part.1)

-- the service stopped at it
pub stop_up : {K : Type 0} (g : Ghosts K) (first k : K) (old new : Output) (a : Asked) (why : Cause) (after : List Stamped) (to : Outcome) → to ≡ stops why after → WritesFront old.written new.written (last_response a why) → new.marks ≡ old.marks
    → KeepsUpTo g first old new (next.Stop why k) to
stop_up g first k old new a why after to is front same =
    rw is (silent_up g first k after old new (record { text = last_response a why; number = number_of (last_reply why) }) (response a true (last_reply why)) (none why) front same)
  where
    none : (why : Cause) → number_of (last_reply why) ≡ None
    none cause.Memory = refl
    none cause.Disk = refl

-- a head isn't taken: a front of its response was sent, or all of it
pub fault_up : {K : Type 0} (g : Ghosts K) (first k : K) (history : List Stamped) (old new : Output) (r : Refusal) → SentFaultFront (reply.Refused r) old.written new.written → new.marks ≡ old.marks → KeepsUpInPart g IsResponse first old new history k
fault_up g first k history old new r sent same =
    silent_up g first k history old new (record { text = fault_response sent.0; number = number_of sent.0 }) (record { told = sent.0; numbered = refl; text = inr refl }) (none sent.1) sent.2 same
  where
    none : IsShown (reply.Refused r) sent.0 → number_of sent.0 ≡ None
    none (inl e) = rw e refl
    none (inr e) = rw e.0 refl

pub fault_whole_up : {K : Type 0} (g : Ghosts K) (first k : K) (history : List Stamped) (old new : Output) (r : Refusal) → SentFault (reply.Refused r) old.written new.written → new.marks ≡ old.marks → KeepsUpInPart g IsResponse first old new history k
fault_whole_up g first k history old new r sent same =
    let text = fault_response sent.0 in
    fault_up g first k history old new r (sent.0, sent.1, (length text, omega arith, sent.2 ∙ ap (append_known old.written) (sym (take_all (length text) text (omega arith))))) same

-- ---- from message to message

-- the connection ends behind responses that keep up
up_behind : {K : Type 0} (g : Ghosts K) (h0 h1 : List Stamped) (k0 k1 : K) (answered : List Stamped) (to : Outcome) (n : Next K) (o0 o1 o2 : Output) → KeptOn g h0 k0 h1 k1 → IsLeft g h1 k1 answered to n
    → KeepsUp g IsResponse k0 o0 o1 h1 k1 → KeepsUpTo g k1 o1 o2 n to → KeepsUpTo g k0 o0 o2 n to
up_behind g h0 h1 k0 k1 answered (goes t) (next.Go s) o0 o1 o2 kept l a b =
    part_keeps_up_then g IsResponse h0 h1 s.state.history k0 k1 s.keeper o0 o1 o2 kept (rw l.0 l.1) a b
up_behind g h0 h1 k0 k1 answered (goes t) (next.Stop cause k) o0 o1 o2 kept l a b = absurd l
up_behind g h0 h1 k0 k1 answered (stops why after) (next.Go s) o0 o1 o2 kept l a b = absurd l
up_behind g h0 h1 k0 k1 answered (stops why after) (next.Stop cause k) o0 o1 o2 kept l a b =
    part_keeps_up_then g IsResponse h0 h1 after k0 k1 k o0 o1 o2 kept (subst (λ (h : List Stamped). KeptOn g h1 k1 h k) l.1.2 l.1.0.kept) a b

pub fails_up : {K : Type 0} (g : Ghosts K) (k : K) (p : Point) (before after : Reading) (t : Turn) (old new : Output) (ms : Option (List ℕ)) (e : Ended × Next K) → before.fault ≡ None → GivesTurn before t after → TurnKeepsUp g p k t old new ms e
    → ReadKeepsUp g p k before old new ms e
unfolding fails_turn
fails_up g k p before after t old new ms e none gives f = (fails_turn g k p before after t new.written ms e none gives f.0, f.1)

pub behind_up : {K : Type 0} (g : Ghosts K) (k0 k1 : K) (p q : Point) (old mid : Reading) (o0 o1 o2 : Output) (ms : Option (List ℕ)) (e : Ended × Next K) → Serves p old q mid → KeptOn g p.state.history k0 q.state.history k1
    → KeepsUp g IsResponse k0 o0 o1 q.state.history k1 → ReadKeepsUp g q k1 mid o1 o2 ms e → TurnsKeepUp g p k0 old o0 o2 ms e
unfolding ends_behind
behind_up g k0 k1 p q old mid o0 o1 o2 ms e served kept a r =
    (ends_behind g k0 k1 p q old mid o2.written ms e served kept r.0, up_behind g p.state.history q.state.history k0 k1 q.state.history r.0.0 e.1 o0 o1 o2 kept r.0.2 a r.1)

-- ---- the connection as a whole

pub session_first_up : {K : Type 0} (g : Ghosts K) (k : K) (left : Option (List ℕ)) (p : Point) (old new : Output) (ms : Option (List ℕ)) (rest : List ℕ) (e : Ended × Next K) → HasGiven [] [] start → TurnsKeepUp g p k start old new ms e
    → RestsKeepUp g p k left left old new ms rest e
unfolding session_first session_rests
session_first_up g k left p old new ms rest e begun t = (session_rests g p p k k left left start new.written ms rest e t.0 (session_first g k left p new.written ms e begun t.0), t.1)

pub session_piece_up : {K : Type 0} (g : Ghosts K) (k0 k1 : K) (law : FedLaw) (left mid now : Option (List ℕ)) (p q : Point) (before : Reading) (count : ℕ) (piece : List ℕ) (o0 o1 o2 : Output) (ms : Option (List ℕ)) (rest : List ℕ) (e : Ended × Next K)
    → HasServed left mid p q before count → KeptOn g p.state.history k0 q.state.history k1 → mid ≡ prepend_known piece now → count + length piece ≤ 2 ^ 32 → KeepsUp g IsResponse k0 o0 o1 q.state.history k1
    → TurnsKeepUp g q k1 (fed before piece) o1 o2 ms e → RestsKeepUp g p k0 left now o0 o2 ms rest e
unfolding session_piece session_rests
session_piece_up g k0 k1 law left mid now p q before count piece o0 o1 o2 ms rest e h kept read few a t = (
  session_rests g p q k0 k1 left now (fed before piece) o2.written ms rest e t.0 (session_piece g k0 k1 law left mid now p q before count piece o2.written ms e h kept read few t.0),
  up_behind g p.state.history q.state.history k0 k1 t.0.turns.last.state.history t.0.to e.1 o0 o1 o2 kept t.0.leaves a t.1,
)
