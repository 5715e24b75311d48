-- From turn to turn of a reader.
use Rattle.std.proofs.Common.{◌≡◌, ◌≤◌, ◌<◌, ◌+◌, ◌^◌, ◌++◌, ◌∷◌, [], List, ℕ, Option, Some, None, Bool, Result, Ok, Err, true, false, refl, ap, sym, append_assoc, append-nil, ◌∙◌, inl, inr, ◌⊎◌, arith, length, length-append, take}
use Rattle.std.specs.Prelude.{IfOk, IfErr}
use Rattle.std.specs.Io.KnownBytes.{prepend_known, IsAtEnd}
use Rattle.std.proofs.lemmas.List.Elements.{All-nil, All-cons, All-append}
use Rattle.httparse.specs.Grammar.{RequestHead, print_request, print_blank, print_version, print_end, print_section}
use Rattle.reg_http.specs.Messages.{IsMessage, HasFault, IsUnfinished}
use Rattle.reg_http.specs.Runs.{HasGiven, calls_in}
use Rattle.reg_http.specs.Turns.{Reading, start, fed, GivesTurn}
use Rattle.reg_http.specs.declared.call.Call.{Call}
use Rattle.reg_http.specs.declared.call.HeadFault.{HeadFault}
use Rattle.reg_http.specs.declared.call.Turn.{Turn}
use Rattle.reg_http.specs.declared.call.Turn.TheVariants as turn
use Rattle.reg_outside.specs.Faults.{Rose}
use Rattle.reg_terms.specs.declared.command.Stamped.{Stamped}
use Rattle.reg_keep.specs.declared.keeper.Keeper.{Ghosts}
use Rattle.reg_service.specs.Kept.{KeptOn, RoseAt}
use Rattle.reg_service.specs.Opening.{Served}
use Rattle.reg_service.specs.declared.service.Cause.{Cause}
use Rattle.reg_service.specs.declared.service.Cause.TheVariants as cause
use Rattle.reg_service.specs.declared.service.Next.{Next}
use Rattle.reg_service.specs.declared.service.Next.TheVariants as next
use Rattle.reg_session.proofs.Halting.{kept_then, halted_then}
use Rattle.reg_session.specs.Answered.{Point}
use Rattle.reg_session.specs.Input.{Takes}
use Rattle.reg_calls.specs.Asked.{closes}
use Rattle.reg_serve.specs.Answered.{Answered, Outcome, goes, stops}
use Rattle.reg_serve.specs.Keeping.{EndsTurnsOf, IsLeft, ReadLeaves, SessionOf, SessionRests, TurnLeaves}
use Rattle.reg_serve.specs.Sessions.{Remains, Serves, TurnFails, TurnServed, EndsTurn, EndsAtMessage, EndsBetween, IsQuiet, HasServed}
use Rattle.reg_serve.specs.declared.ended.Ended.{Ended}
use Rattle.reg_serve.specs.declared.ended.Ended.TheVariants as ended
use Rattle.reg_serve.proofs.Answering.{answered_none, answered_more}

-- a head has a byte at least
space_some : (front version ended section : List ℕ) → 0 < length (front ++ 32 ∷ version ++ ended ++ section)
space_some front version ended section = omega (arith, length-append (front ++ 32 ∷ version ++ ended) section, length-append (front ++ 32 ∷ version) ended, length-append front (32 ∷ version))

head_some : (head : RequestHead) → 0 < length (print_request head)
unfolding print_request
head_some head = space_some (print_blank head.blank ++ head.method ++ 32 ∷ head.target) (print_version head.minor) (print_end head.line_end) (print_section head.fields head.last)

-- a message is taken out of the bytes
pub message_shorter : (bytes : List ℕ) (call : Call) (later : List ℕ) → IsMessage bytes call later → length later < length bytes
message_shorter bytes call later m =
    let whole : bytes ≡ print_request m.head ++ (m.body ++ later) = m.begins.reads.1 in
    let all : length bytes ≡ length (print_request m.head ++ (m.body ++ later)) = ap (λ (l : List ℕ). length l) whole in
    omega (arith, all, length-append (print_request m.head) (m.body ++ later), length-append m.body later, head_some m.head)

-- a message leaves the connection open
abbrev IsOpen : Call → Type 0
IsOpen call = closes call ≡ false

-- nothing was answered
pub serves_none : (p : Point) (reading : Reading) → Serves p reading p reading
serves_none p reading = record { calls = []; open_still = All-nil IsOpen; all = answered_none p; given = λ bytes done h. rw (append-nil done) h }

-- messages and further messages
pub serves_more : (p q r : Point) (a b c : Reading) → Serves p a q b → Serves q b r c → Serves p a r c
serves_more p q r a b c one two = record {
  calls = one.calls ++ two.calls;
  open_still = All-append IsOpen one.calls two.calls one.open_still two.open_still;
  all = answered_more p q r one.calls two.calls one.all two.all;
  given = λ bytes done h. rw (← append_assoc done one.calls two.calls) (two.given bytes (done ++ one.calls) (one.given bytes done h));
}

abbrev GivenLaw : Type 0
GivenLaw = (bytes : List ℕ) (calls : List Call) (before after : Reading) (t : Turn) → HasGiven bytes calls before → GivesTurn before t after → HasGiven bytes (calls ++ calls_in t) after

-- one message
pub serves_one : (law : GivenLaw) (p q : Point) (before after : Reading) (call : Call) → GivesTurn before (turn.Call call) after → closes call ≡ false → Answered p (call ∷ []) q → Serves p before q after
serves_one law p q before after call gives still answered = record {
  calls = call ∷ [];
  open_still = All-cons IsOpen call [] still (All-nil IsOpen);
  all = answered;
  given = λ bytes done h. law bytes done before after (turn.Call call) h gives;
}

-- the fault of a turn, where none was given before
pub fault_of : (before after : Reading) (fault : HeadFault) → GivesTurn before (turn.Bad fault) after → before.fault ≡ None → HasFault before.rest fault
fault_of before after fault gives none = go gives.1
  where
    go : (before.fault ≡ Some fault) ⊎ ((before.fault ≡ None) × HasFault before.rest fault) → HasFault before.rest fault
    go (inl e) = absurd (cc)
    go (inr h) = h.1

-- ---- a turn that was taken

pub served_turn : (law : GivenLaw) (p q : Point) (before after : Reading) (t : Turn) (more : Bool) → GivesTurn before t after → TurnServed p t q more → Serves p before q after
served_turn law p q before after (turn.Call call) more gives s = serves_one law p q before after call gives s.0 s.1
served_turn law p q before after turn.NeedMore more gives s = rw (gives.1, s.0) (serves_none p before)
served_turn law p q before after (turn.Bad fault) more gives s = absurd s

pub remains : (p q : Point) (before after : Reading) (t : Turn) (more : Bool) → before.fault ≡ None → GivesTurn before t after → TurnServed p t q more → Remains before more after
remains p q before after (turn.Call call) more none gives s = rw s.2 (gives.1, message_shorter before.rest call after.rest gives.2)
remains p q before after turn.NeedMore more none gives s = rw (s.1, gives.1) (none, refl, gives.2)
remains p q before after (turn.Bad fault) more none gives s = absurd s

pub fails_ends : (p : Point) (before after : Reading) (t : Turn) (w ms : Option (List ℕ)) (e : Ended) (to : Outcome) → before.fault ≡ None → GivesTurn before t after → TurnFails p t w ms e to → EndsTurn p before w ms e to
fails_ends p before after (turn.Call call) w ms e to none gives f = inl (inl (call, after.rest, gives.2, f))
fails_ends p before after turn.NeedMore w ms e to none gives f = absurd f
fails_ends p before after (turn.Bad fault) w ms e to none gives f = inl (inr (fault, fault_of before after fault gives none, f))

unfoldable pub fails_turn : {K : Type 0} (g : Ghosts K) (k : K) (p : Point) (before after : Reading) (t : Turn) (w ms : Option (List ℕ)) (e : Ended × Next K) → before.fault ≡ None → GivesTurn before t after → TurnLeaves g p k t w ms e → ReadLeaves g p k before w ms e
fails_turn g k p before after t w ms e none gives f = (f.to, fails_ends p before after t w ms e.0 f.to none gives f.ends, f.leaves)

-- what holds of a result goes on
pub ok_so : {A E : Type 0} (P Q : A → Type 0) (r : Result A E) → IfOk r P → ((x : A) → P x → Q x) → IfOk r Q
ok_so P Q (Ok x) h f = f x h
ok_so P Q (Err e) h f = tt

pub err_so : {A E : Type 0} (P Q : E → Type 0) (r : Result A E) → IfErr r P → ((e : E) → P e → Q e) → IfErr r Q
err_so P Q (Ok x) h f = tt
err_so P Q (Err e) h f = f e h

pub remains_fault : (old new : Reading) (more : Bool) → Remains old more new → new.fault ≡ None
remains_fault old new true r = r.0
remains_fault old new false r = r.0

pub remains_none : (old new : Reading) (more : Bool) → Remains old more new → more ≡ false → IsUnfinished new.rest
remains_none old new true r e = absurd (cc)
remains_none old new false r e = r.2

-- ---- what is left

-- there was no memory for more
pub ends_quiet : {K : Type 0} (g : Ghosts K) (k : K) (p : Point) (reading : Reading) (w ms : Option (List ℕ)) (s : Served K) → w ≡ p.written → ms ≡ p.moments → s.state ≡ p.state → KeptOn g p.state.history k s.state.history s.keeper
    → EndsTurnsOf g p k reading w ms (ended.NoMemory, next.Go s)
ends_quiet g k p reading w ms s same still at kept = record {
  to = goes s.state;
  turns = record { last = p; reading = reading; served = serves_none p reading; ends = inr ((same, still, at), refl) };
  leaves = (refl, kept);
}

rose_at_more : (why : Cause) (a b c : ℕ) → a ≤ b → RoseAt why b c → RoseAt why a c
rose_at_more cause.Memory a b c le r = tt
rose_at_more cause.Disk a b c le r = omega (arith, le, r)

-- what is left from a later history and keeper on
pub left_then : {K : Type 0} (g : Ghosts K) (h0 h1 : List Stamped) (k0 k1 : K) (answered : List Stamped) (to : Outcome) (n : Next K) → KeptOn g h0 k0 h1 k1 → IsLeft g h1 k1 answered to n → IsLeft g h0 k0 answered to n
left_then g h0 h1 k0 k1 answered (goes s) (next.Go service) kept l = (l.0, kept_then g h0 h1 s.history k0 k1 service.keeper kept l.1)
left_then g h0 h1 k0 k1 answered (goes s) (next.Stop why k) kept l = absurd l
left_then g h0 h1 k0 k1 answered (stops why after) (next.Go service) kept l = absurd l
left_then g h0 h1 k0 k1 answered (stops why after) (next.Stop cause k) kept l =
    (l.0, (halted_then g h0 h1 k0 k1 k kept l.1.0, l.1.1, l.1.2), rose_at_more cause (g.keep_faults k0) (g.keep_faults k1) (g.keep_faults k) kept.later l.2)

-- a message ended the connection, behind others that were answered
unfoldable pub ends_behind : {K : Type 0} (g : Ghosts K) (k0 k1 : K) (p q : Point) (old mid : Reading) (w ms : Option (List ℕ)) (e : Ended × Next K) → Serves p old q mid → KeptOn g p.state.history k0 q.state.history k1 → ReadLeaves g q k1 mid w ms e
    → EndsTurnsOf g p k0 old w ms e
ends_behind g k0 k1 p q old mid w ms e served kept r = record {
  to = r.0;
  turns = record { last = q; reading = mid; served = served; ends = r.1 };
  leaves = left_then g p.state.history q.state.history k0 k1 q.state.history r.0 e.1 kept r.2;
}

-- ---- the connection as a whole

abbrev pub FedLaw : Type 0
FedLaw = (bytes piece : List ℕ) (calls : List Call) (reading : Reading) → HasGiven bytes calls reading → HasGiven (bytes ++ piece) calls (fed reading piece)

pub takes_none : (left : Option (List ℕ)) → Takes left [] left
takes_none None = refl
takes_none (Some bytes) = refl

pub takes_more : (left mid now : Option (List ℕ)) (xs ys : List ℕ) → Takes left xs mid → mid ≡ prepend_known ys now → Takes left (xs ++ ys) now
takes_more left mid now xs ys one two = one ∙ (ap (prepend_known xs) two ∙ prepend_more now)
  where
    prepend_more : (now : Option (List ℕ)) → prepend_known xs (prepend_known ys now) ≡ prepend_known (xs ++ ys) now
    prepend_more None = refl
    prepend_more (Some rest) = ap Some (sym (append_assoc xs ys rest))

-- a read of nothing takes nothing more
took_none : (left mid now : Option (List ℕ)) (taken bs : List ℕ) (k : ℕ) → Takes left taken mid → mid ≡ prepend_known (take k bs) now → k ≡ 0 → Takes left taken now
took_none left mid now taken bs k t e z = t ∙ ap (prepend_known taken) (rw z at e ∙ same now)
  where
    same : (o : Option (List ℕ)) → prepend_known [] o ≡ o
    same None = refl
    same (Some bytes) = refl

-- nothing was read yet
pub served_first : (left : Option (List ℕ)) (p q : Point) (reading : Reading) → HasGiven [] [] start → Serves p start q reading → HasServed left left p q reading 0
served_first left p q reading begun s = record {
  taken = [];
  input = takes_none left;
  calls = s.calls;
  open_still = s.open_still;
  all = s.all;
  given = s.given [] [] begun;
  counted = refl;
}

-- a piece more was read
pub served_piece : (law : FedLaw) (left mid now : Option (List ℕ)) (p q r : Point) (before after : Reading) (count n : ℕ) (piece : List ℕ) → HasServed left mid p q before count
    → mid ≡ prepend_known piece now → length piece ≡ n → Serves q (fed before piece) r after → HasServed left now p r after (count + n)
served_piece law left mid now p q r before after count n piece h read long s = record {
  taken = h.taken ++ piece;
  input = takes_more left mid now h.taken piece h.input read;
  calls = h.calls ++ s.calls;
  open_still = All-append IsOpen h.calls s.calls h.open_still s.open_still;
  all = answered_more p q r h.calls s.calls h.all s.all;
  given = s.given (h.taken ++ piece) h.calls (law h.taken piece h.calls before h.given);
  counted = omega (arith, length-append h.taken piece, h.counted, long);
}

pub turn_ends : (taken : List ℕ) (now : Option (List ℕ)) (p : Point) (reading : Reading) (w ms : Option (List ℕ)) (e : Ended) (to : Outcome) → EndsTurn p reading w ms e to
    → EndsAtMessage p reading.rest w ms e to ⊎ (IsQuiet p w ms to × EndsBetween taken now reading.rest e)
turn_ends taken now p reading w ms e to (inl at) = inl at
turn_ends taken now p reading w ms e to (inr quiet) = inr (quiet.0, rw quiet.1 tt)

-- no message ends a connection since no more bytes came
pub never_silent : (p : Point) (reading : Reading) (w ms : Option (List ℕ)) (to : Outcome) → EndsTurn p reading w ms ended.Silent to → ⊥
never_silent p reading w ms (goes s) (inl (inl m)) = m.3
never_silent p reading w ms (goes s) (inl (inr f)) = f.2
never_silent p reading w ms (goes s) (inr quiet) = absurd (cc)
never_silent p reading w ms (stops why after) (inl (inl m)) = m.3
never_silent p reading w ms (stops why after) (inl (inr f)) = f.2
never_silent p reading w ms (stops why after) (inr quiet) = absurd (cc)

-- so where one did, nothing is said of what was read of it last
unfoldable pub session_rests : {K : Type 0} (g : Ghosts K) (before p : Point) (first k : K) (left now : Option (List ℕ)) (old : Reading) (w ms : Option (List ℕ)) (rest : List ℕ) (e : Ended × Next K) → EndsTurnsOf g p k old w ms e → SessionOf g before first left now w ms e
    → SessionRests g before first left now w ms rest e
session_rests g before p first k left now old w ms rest e t l = (l, λ is. absurd (never_silent t.turns.last t.turns.reading w ms t.to (rw is at t.turns.ends)))

pub failed_otherwise : ended.Failed ≡ ended.Silent → ⊥
failed_otherwise is = absurd (cc)

pub too_much_otherwise : ended.TooMuch ≡ ended.Silent → ⊥
too_much_otherwise is = absurd (cc)

-- nor where it ended otherwise
pub other_rests : {K : Type 0} (g : Ghosts K) (before : Point) (first : K) (left now w ms : Option (List ℕ)) (rest : List ℕ) (e : Ended × Next K) → (e.0 ≡ ended.Silent → ⊥) → SessionOf g before first left now w ms e → SessionRests g before first left now w ms rest e
other_rests g before first left now w ms rest e not l = (l, λ is. absurd (not is))

-- it ended before anything was read
unfoldable pub session_first : {K : Type 0} (g : Ghosts K) (k : K) (left : Option (List ℕ)) (p : Point) (w ms : Option (List ℕ)) (e : Ended × Next K) → HasGiven [] [] start → EndsTurnsOf g p k start w ms e → SessionOf g p k left left w ms e
session_first g k left p w ms e begun t = record {
  to = t.to;
  session = record {
    taken = [];
    input = takes_none left;
    few = omega arith;
    calls = t.turns.served.calls;
    open_still = t.turns.served.open_still;
    last = t.turns.last;
    all = t.turns.served.all;
    reading = t.turns.reading;
    given = t.turns.served.given [] [] begun;
    ends = turn_ends [] left t.turns.last t.turns.reading w ms e.0 t.to t.turns.ends;
  };
  leaves = t.leaves;
}

pub session_none : {K : Type 0} (g : Ghosts K) (left : Option (List ℕ)) (p : Point) (s : Served K) → HasGiven [] [] start → s.state ≡ p.state → KeptOn g p.state.history s.keeper s.state.history s.keeper
    → SessionOf g p s.keeper left left p.written p.moments (ended.NoMemory, next.Go s)
session_none g left p s begun at kept = record {
  to = goes s.state;
  session = record {
    taken = [];
    input = takes_none left;
    few = omega arith;
    calls = [];
    open_still = All-nil IsOpen;
    last = p;
    all = answered_none p;
    reading = start;
    given = begun;
    ends = inr ((refl, refl, at), tt);
  };
  leaves = (refl, kept);
}

-- it ended in a piece that was read
unfoldable pub session_piece : {K : Type 0} (g : Ghosts K) (k0 k1 : K) (law : FedLaw) (left mid now : Option (List ℕ)) (p q : Point) (before : Reading) (count : ℕ) (piece : List ℕ) (w ms : Option (List ℕ)) (e : Ended × Next K) → HasServed left mid p q before count
    → KeptOn g p.state.history k0 q.state.history k1 → mid ≡ prepend_known piece now → count + length piece ≤ 2 ^ 32 → EndsTurnsOf g q k1 (fed before piece) w ms e → SessionOf g p k0 left now w ms e
session_piece g k0 k1 law left mid now p q before count piece w ms e h kept read few t = record {
  to = t.to;
  session = record {
    taken = h.taken ++ piece;
    input = takes_more left mid now h.taken piece h.input read;
    few = omega (arith, length-append h.taken piece, h.counted, few);
    calls = h.calls ++ t.turns.served.calls;
    open_still = All-append IsOpen h.calls t.turns.served.calls h.open_still t.turns.served.open_still;
    last = t.turns.last;
    all = answered_more p q t.turns.last h.calls t.turns.served.calls h.all t.turns.served.all;
    reading = t.turns.reading;
    given = t.turns.served.given (h.taken ++ piece) h.calls (law h.taken piece h.calls before h.given);
    ends = turn_ends (h.taken ++ piece) now t.turns.last t.turns.reading w ms e.0 t.to t.turns.ends;
  };
  leaves = left_then g p.state.history q.state.history k0 k1 t.turns.last.state.history t.to e.1 kept t.leaves;
}

pub first_rests : {K : Type 0} (g : Ghosts K) (k : K) (left : Option (List ℕ)) (p : Point) (w ms : Option (List ℕ)) (rest : List ℕ) (e : Ended × Next K) → HasGiven [] [] start → EndsTurnsOf g p k start w ms e → SessionRests g p k left left w ms rest e
first_rests g k left p w ms rest e begun t = session_rests g p p k k left left start w ms rest e t (session_first g k left p w ms e begun t)

pub piece_rests : {K : Type 0} (g : Ghosts K) (k0 k1 : K) (law : FedLaw) (left mid now : Option (List ℕ)) (p q : Point) (before : Reading) (count : ℕ) (piece : List ℕ) (w ms : Option (List ℕ)) (rest : List ℕ) (e : Ended × Next K) → HasServed left mid p q before count
    → KeptOn g p.state.history k0 q.state.history k1 → mid ≡ prepend_known piece now → count + length piece ≤ 2 ^ 32 → EndsTurnsOf g q k1 (fed before piece) w ms e → SessionRests g p k0 left now w ms rest e
piece_rests g k0 k1 law left mid now p q before count piece w ms rest e h kept read few t =
    session_rests g p q k0 k1 left now (fed before piece) w ms rest e t (session_piece g k0 k1 law left mid now p q before count piece w ms e h kept read few t)

-- a read failed, or 2^32 bytes were read
pub session_still : {K : Type 0} (g : Ghosts K) (k0 : K) (left mid now : Option (List ℕ)) (p : Point) (s : Served K) (before : Reading) (count : ℕ) (w0 w ms : Option (List ℕ)) (e : Ended)
    → HasServed left mid p (record { written = w0; moments = ms; state = s.state }) before count → KeptOn g p.state.history k0 s.state.history s.keeper
    → now ≡ mid → w ≡ w0 → count ≤ 2 ^ 32 → ((taken : List ℕ) → length taken ≡ count → EndsBetween taken now before.rest e) → SessionOf g p k0 left now w ms (e, next.Go s)
session_still g k0 left mid now p s before count w0 w ms e h kept same still few why = record {
  to = goes s.state;
  session = record {
    taken = h.taken;
    input = rw same h.input;
    few = omega (arith, h.counted, few);
    calls = h.calls;
    open_still = h.open_still;
    last = record { written = w0; moments = ms; state = s.state };
    all = h.all;
    reading = before;
    given = h.given;
    ends = inr ((still, refl, refl), why h.taken h.counted);
  };
  leaves = (refl, kept);
}

-- its bytes ended
pub session_end : {K : Type 0} (g : Ghosts K) (k0 : K) (left mid now : Option (List ℕ)) (p : Point) (s : Served K) (before : Reading) (count : ℕ) (bs : List ℕ) (n : ℕ) (w0 w ms : Option (List ℕ))
    → HasServed left mid p (record { written = w0; moments = ms; state = s.state }) before count → KeptOn g p.state.history k0 s.state.history s.keeper → w ≡ w0
    → mid ≡ prepend_known (take n bs) now → n ≡ 0 → IsAtEnd now → count < 2 ^ 32 → IsUnfinished before.rest → SessionRests g p k0 left now w ms before.rest (ended.Silent, next.Go s)
session_end g k0 left mid now p s before count bs n w0 w ms h kept still read none at few unfinished = (
  record {
    to = goes s.state;
    session = record {
      taken = h.taken;
      input = took_none left mid now h.taken bs n h.input read none;
      few = omega (arith, h.counted, few);
      calls = h.calls;
      open_still = h.open_still;
      last = record { written = w0; moments = ms; state = s.state };
      all = h.all;
      reading = before;
      given = h.given;
      ends = inr ((still, refl, refl), (at, unfinished, omega (arith, h.counted, few)));
    };
    leaves = (refl, kept);
  },
  λ is. refl,
)

-- a count of faults that rose has risen from before
pub rose_more : (a b c x y z : ℕ) → a ≤ b → x ≤ y → Rose b c ⊎ Rose y z → Rose a c ⊎ Rose x z
rose_more a b c x y z one two (inl r) = inl (omega (arith, one, r))
rose_more a b c x y z one two (inr r) = inr (omega (arith, two, r))
