-- Where a session stops at a batch.
use Rattle.std.proofs.Common.{◌≡◌, ◌≤◌, ◌+◌, ◌^◌, ◌++◌, ◌∷◌, [], List, ℕ, Option, Some, None, Result, Ok, Err, refl, ap, sym, ◌∙◌, subst, arith, inl, inr, ◌⊎◌, true, length, length-append, take, drop, take-append-drop, append_assoc, append-nil}
use Rattle.std.specs.Prelude.{IfErr, IfSome, OnOk, is_some}
use Rattle.std.specs.Io.KnownBytes.{append_known, prepend_known}
use Rattle.std.proofs.Math.Seq.{drop-append_seam, take-append_seam}
use Rattle.reg_outside.specs.Streams.{WritesFront}
use Rattle.reg_terms.specs.declared.command.Stamped.{Stamped}
use Rattle.reg_terms.specs.declared.reply.Reply.{Reply}
use Rattle.reg_terms.specs.declared.reply.Reply.TheVariants as reply
use Rattle.reg_machine.specs.History.{State}
use Rattle.reg_keep.specs.declared.keeper.Keeper.{Ghosts}
use Rattle.reg_service.specs.Kept.{KeptOn, Halted, HaltedBy, IsFewMore, IsOneMore, Stopped}
use Rattle.reg_service.specs.Marked.{part_keeps_up_then}
use Rattle.reg_service.specs.Marks.{Output, KeepsUp, KeepsUpInPart}
use Rattle.reg_service.specs.Opening.{FrontsReopen, payloads_of}
use Rattle.reg_session.specs.Answered.{Point, Answered, Accepted, replies_of}
use Rattle.reg_session.specs.Input.{HasTaken, StopsInputKeepingUp}
use Rattle.reg_session.specs.Lines.{ended_from, lines, lines_from, pending_from}
use Rattle.reg_session.specs.Pending.{Holds}
use Rattle.reg_session.specs.Replies.{IsLine, line_of, lines_of}
use Rattle.reg_session.specs.Stops.{IsSaid}
use Rattle.reg_session.specs.Together.{EndsBatch, HaltsAtBatch, HaltsTogether, SaysFault, StopsAtBatch, StopsKeeping, StopsTogetherKeepingUp, line_feeds}
use Rattle.reg_session.specs.declared.pending.PendingLine.{PendingLine}
use Rattle.reg_session.specs.declared.stop.Stop.{Stop}
use Rattle.reg_session.specs.declared.stop.Stop.TheVariants as stop
use Rattle.reg_session.proofs.Answering.{answered_more, answered_none}
use Rattle.reg_session.proofs.Batching.{answered_moved, ended_count, few_accepted}
use Rattle.reg_session.proofs.BatchMarks.{fault_keeps_up}
use Rattle.reg_session.proofs.Cutting.{lines_are_cut, lines_more}
use Rattle.reg_session.proofs.Feeding.{takes_more}
use Rattle.reg_session.proofs.Halting.{kept_then, whole}
use Rattle.reg_session.proofs.Numbering.{accepted_in, accepted_all}

-- ---- the keeper

pub few_more : (most : ℕ) (answered after : List Stamped) → 1 ≤ most → IsOneMore answered after → IsFewMore most answered after
few_more most answered after some (inl e) = ([], omega arith, e ∙ sym (append-nil answered))
few_more most answered after some (inr e) = (e.0 ∷ [], omega (arith, some), e.1)

-- a session that stops at one line, as one that stops at a batch
abbrev pub halted_few : {K : Type 0} (most : ℕ) (g : Ghosts K) (before : List Stamped) (old keeper : K) → 1 ≤ most → Halted g before old keeper → HaltedBy most g before old keeper
halted_few most g before old keeper some h = record {
  answered = h.answered;
  after = h.after;
  first = h.first;
  last = few_more most h.answered h.after some h.last;
  kept = h.kept;
  stopped = h.stopped;
}

-- all that is kept was answered
abbrev pub halted_whole : {K : Type 0} (most : ℕ) (g : Ghosts K) (before after : List Stamped) (old keeper : K) → KeptOn g before old after keeper → IfSome (g.payloads old) (λ ps. Stopped g after after keeper) → HaltedBy most g before old keeper
halted_whole most g before after old keeper kept stopped = record {
  answered = after;
  after = after;
  first = omega (arith, ap (λ (l : List Stamped). length l) kept.grown, length-append before kept.more);
  last = ([], omega arith, sym (append-nil after));
  kept = kept;
  stopped = stopped;
}

-- a front of these commands may be kept, of which none was answered
abbrev pub halted_part : {K : Type 0} (most : ℕ) (g : Ghosts K) (before after more : List Stamped) (old keeper : K) → KeptOn g before old after keeper → IfSome (g.payloads old) (λ ps. Stopped g before after keeper)
    → after ≡ before ++ more → length more ≤ most → HaltedBy most g before old keeper
halted_part most g before after more old keeper kept stopped grown few = record {
  answered = before;
  after = after;
  first = omega arith;
  last = (more, few, grown);
  kept = kept;
  stopped = stopped;
}

-- and from a moment before
abbrev pub halted_by_then : {K : Type 0} (most : ℕ) (g : Ghosts K) (h0 h1 : List Stamped) (k0 k1 k2 : K) → KeptOn g h0 k0 h1 k1 → HaltedBy most g h1 k1 k2 → HaltedBy most g h0 k0 k2
halted_by_then most g h0 h1 k0 k1 k2 a b = record {
  answered = b.answered;
  after = b.after;
  first = omega (arith, b.first, ap (λ (l : List Stamped). length l) a.grown, length-append h0 a.more);
  last = b.last;
  kept = kept_then g h0 h1 b.after k0 k1 k2 a b.kept;
  stopped = stopped (g.payloads k0) (g.payloads k1) a.told b.stopped;
}
  where
    stopped : (o p : Option (List (List ℕ))) → IfSome o (λ ps. is_some p ≡ true) → IfSome p (λ ps. Stopped g b.answered b.after k2) → IfSome o (λ ps. Stopped g b.answered b.after k2)
    stopped None p t x = tt
    stopped (Some ps) None t x = absurd (cc)
    stopped (Some ps) (Some qs) t x = x

-- ---- the lines

-- behind lines that were answered
pub batch_then : (most : ℕ) (p q : Point) (xs ys : List (List ℕ)) (w : Option (List ℕ)) (failed : Type 0) (answered after : List Stamped) (why : Stop) → Answered p xs q → StopsAtBatch most q ys w failed answered after why
    → StopsAtBatch most p (xs ++ ys) w failed answered after why
batch_then most p q xs ys w failed answered after why a s =
    let all = answered_more p q s.mid xs s.earlier a s.all.all in
    record {
      earlier = xs ++ s.earlier;
      batch = s.batch;
      later = s.later;
      cut = ap (λ (l : List (List ℕ)). xs ++ l) s.cut ∙ sym (append_assoc xs s.earlier (s.batch ++ s.later));
      few = s.few;
      mid = s.mid;
      accepted = accepted_in p s.mid (xs ++ s.earlier) all;
      all = accepted_all p s.mid (xs ++ s.earlier) all;
      ends = s.ends;
    }

-- in further bytes
pub batch_from : (most : ℕ) (p q : Point) (before xs ys : List ℕ) (w : Option (List ℕ)) (failed : Type 0) (answered after : List Stamped) (why : Stop) → Answered p (ended_from before xs) q
    → StopsAtBatch most q (lines_from (pending_from before xs) ys) w failed answered after why → StopsAtBatch most p (lines_from before (xs ++ ys)) w failed answered after why
batch_from most p q before xs ys w failed answered after why a s =
    rw (lines_more before xs ys) (batch_then most p q (ended_from before xs) (lines_from (pending_from before xs) ys) w failed answered after why a s)

-- where the output failed, it failed
said_wider : (due : Reply) (old new : Option (List ℕ)) (failed wider : Type 0) → (failed → wider) → IsSaid due old new failed → IsSaid due old new wider
said_wider due old new failed wider more (inl e) = inl e
said_wider due old new failed wider more (inr f) = inr (more f)

fault_wider : (due : Reply) (old new : Option (List ℕ)) (failed wider : Type 0) → (failed → wider) → SaysFault due old new failed → SaysFault due old new wider
fault_wider due old new failed wider more says = (said_wider due old new failed wider more says.0, says.1)

ends_wider : (mid : Point) (batch : List (List ℕ)) (w : Option (List ℕ)) (failed wider : Type 0) (answered after : List Stamped) (why : Stop) → (failed → wider) → EndsBatch mid batch w failed answered after why
    → EndsBatch mid batch w wider answered after why
ends_wider mid batch w failed wider answered after stop.Memory more e = (fault_wider reply.NoMemory mid.written w failed wider more e.0, e.1, e.2)
ends_wider mid batch w failed wider answered after stop.Disk more e = (fault_wider reply.KeepFault mid.written w failed wider more e.0, e.1, e.2)
ends_wider mid batch w failed wider answered after stop.Input more e = elim e [ ]
ends_wider mid batch w failed wider answered after stop.Output more e = e
ends_wider mid batch w failed wider answered after stop.TooMuch more e = elim e [ ]

pub batch_wider : (most : ℕ) (p : Point) (ls : List (List ℕ)) (w : Option (List ℕ)) (failed wider : Type 0) (answered after : List Stamped) (why : Stop) → (failed → wider) → StopsAtBatch most p ls w failed answered after why
    → StopsAtBatch most p ls w wider answered after why
batch_wider most p ls w failed wider answered after why more s = record {
  earlier = s.earlier;
  batch = s.batch;
  later = s.later;
  cut = s.cut;
  few = s.few;
  mid = s.mid;
  accepted = s.accepted;
  all = s.all;
  ends = ends_wider s.mid s.batch w failed wider answered after why more s.ends;
}

-- at the first lines that bytes end
at_batch : (most : ℕ) (p : Point) (before bytes : List ℕ) (n : ℕ) (w : Option (List ℕ)) (failed : Type 0) (answered after : List Stamped) (why : Stop) → line_feeds (take n bytes) ≤ most
    → EndsBatch p (ended_from before (take n bytes)) w failed answered after why → StopsAtBatch most p (lines_from before bytes) w failed answered after why
at_batch most p before bytes n w failed answered after why few ends = record {
  earlier = [];
  batch = ended_from before (take n bytes);
  later = lines_from (pending_from before (take n bytes)) (drop n bytes);
  cut = ap (λ (l : List ℕ). lines_from before l) (sym (take-append-drop n bytes)) ∙ lines_more before (take n bytes) (drop n bytes);
  few = omega (arith, few, ended_count before (take n bytes));
  mid = p;
  accepted = accepted_in p p [] (answered_none p);
  all = accepted_all p p [] (answered_none p);
  ends = ends;
}

-- ---- how a batch ends

-- there was no memory for it
pub unkept_halts : {K : Type 0} (most : ℕ) (g : Ghosts K) (c : Option (List ℕ)) (s : State) (old keeper : K) (before bytes : List ℕ) (n : ℕ) (from to : Output) (failed : Type 0) → line_feeds (take n bytes) ≤ most
    → KeptOn g s.history keeper s.history keeper → keeper ≡ old → FrontsReopen s.history → ((r : Result (List (List ℕ)) ℕ) → g.stop_leaves keeper r → r ≡ Ok (payloads_of s.history))
    → SaysFault reply.NoMemory from.written to.written failed → to.marks ≡ from.marks
    → HaltsTogether most g (record { written = from.written; moments = c; state = s }) old (lines_from before bytes) from to failed stop.Memory keeper
unkept_halts {K = K} most g c s old keeper before bytes n from to failed few kept same fronts leaves says marks = (
  (
    halted_whole most g s.history s.history old keeper (subst (λ (k : K). KeptOn g s.history k s.history keeper) same kept) (whole g s.history keeper (g.payloads old) fronts leaves),
    at_batch most (record { written = from.written; moments = c; state = s }) before bytes n to.written failed s.history s.history stop.Memory few (says, refl, refl),
  ),
  fault_keeps_up g old keeper s.history from to reply.NoMemory refl says.1 marks,
)

-- the history from before the batch
pub first_back : (h0 h1 more : List Stamped) (n : ℕ) → h1 ≡ h0 ++ more → n ≡ length h0 → take n h1 ≡ h0
first_back h0 h1 more n grown is = rw (grown, is) (take-append_seam h0 more)

-- a line was written, or the output failed
pub says_fault : {T : Type 0} (fault : Reply) (old new : Option (List ℕ)) (bytes : List ℕ) (failed : Type 0) (r : Result T Stop) → bytes ≡ line_of fault → OnOk r (new ≡ append_known old bytes) → IfErr r (λ e. (e ≡ stop.Output) × failed)
    → WritesFront old new bytes → SaysFault fault old new failed
says_fault fault old new bytes failed r is wrote output front = (said r wrote output, rw is at front)
  where
    said : {T : Type 0} (r : Result T Stop) → OnOk r (new ≡ append_known old bytes) → IfErr r (λ e. (e ≡ stop.Output) × failed) → IsSaid fault old new failed
    said (Ok x) wrote output = inl (rw is at wrote)
    said (Err e) wrote output = inr output.1

same_front : (w written : Option (List ℕ)) (text lines : List ℕ) → append_known w text ≡ append_known w lines → WritesFront w written text → WritesFront w written lines
same_front None written text lines same front = (0, omega arith, front.2)
same_front (Some bytes) written text lines same front =
    let both : bytes ++ text ≡ bytes ++ lines = cc in
    let is : text ≡ lines = sym (drop-append_seam bytes text) ∙ (ap (λ (l : List ℕ). drop (length bytes) l) both ∙ drop-append_seam bytes lines) in
    subst (λ (l : List ℕ). WritesFront (Some bytes) written l) is front

-- the keeper failed, or the output: the lines were answered into an empty buffer
pub kept_halts : {K : Type 0} (most : ℕ) (g : Ghosts K) (c0 c1 : Option (List ℕ)) (s0 s1 : State) (old keeper : K) (before bytes text : List ℕ) (n : ℕ) (from to : Output) (failed : Type 0) (why : Stop) → line_feeds (take n bytes) ≤ most
    → Answered (record { written = Some []; moments = c0; state = s0 }) (ended_from before (take n bytes)) (record { written = Some text; moments = c1; state = s1 }) → KeptOn g s0.history old s1.history keeper
    → StopsKeeping g s0.history s1.history text (g.payloads old) from.written to.written failed why keeper → KeepsUpInPart g IsLine old from to s1.history keeper
    → HaltsTogether most g (record { written = from.written; moments = c0; state = s0 }) old (lines_from before bytes) from to failed why keeper
kept_halts {K = K} most g c0 c1 s0 s1 old keeper before bytes text n from to failed why few a kept stops keeps_up = cases why stops
  where
    ls : List (List ℕ)
    ls = ended_from before (take n bytes)

    here : Point
    here = record { written = from.written; moments = c0; state = s0 }

    due : Point
    due = record { written = append_known from.written text; moments = c1; state = s1 }

    all : Answered here ls due
    all = answered_moved from.written c0 c1 s0 s1 text ls a

    more : List Stamped
    more = accepted_in here due ls all

    accepts : Accepted here ls due more
    accepts = accepted_all here due ls all

    fits : length more ≤ most
    fits = omega (arith, few_accepted here due ls more all accepts.grown, ended_count before (take n bytes), few)

    cases : (why : Stop) → StopsKeeping g s0.history s1.history text (g.payloads old) from.written to.written failed why keeper → HaltsTogether most g here old (lines_from before bytes) from to failed why keeper
    cases stop.Memory stops = elim stops [ ]
    cases stop.Disk stops = (
      (halted_part most g s0.history s1.history more old keeper kept stops.1 accepts.grown fits, at_batch most here before bytes n to.written failed s0.history s1.history stop.Disk few (stops.0, refl, (due, more, accepts, refl))),
      keeps_up,
    )
    cases stop.Input stops = elim stops [ ]
    cases stop.Output stops = (
      (
        halted_whole most g s0.history s1.history old keeper kept stops.1,
        at_batch most here before bytes n to.written failed s1.history s1.history stop.Output few
            (due, more, accepts, same_front from.written to.written text (lines_of (replies_of accepts.all.answers)) accepts.all.text stops.0, refl, refl),
      ),
      keeps_up,
    )
    cases stop.TooMuch stops = elim stops [ ]

-- ---- over an input

-- a batch of a piece stopped the session
pub stops_batch : {K : Type 0} (most : ℕ) (g : Ghosts K) (p q : Point) (k0 k1 k2 : K) (left mid now : Option (List ℕ)) (o0 o1 o2 : Output) (f : Option ℕ) (failed wider : Type 0) (a b : PendingLine) (count : ℕ) (piece : List ℕ) (why : Stop)
    → HasTaken left mid p q a b count → Holds a [] → count + length piece ≤ 2 ^ 32 → mid ≡ prepend_known piece now → KeptOn g p.state.history k0 q.state.history k1 → KeepsUp g IsLine k0 o0 o1 q.state.history k1 → (failed → wider)
    → ((before : List ℕ) → Holds b before → HaltsTogether most g q k1 (lines_from before piece) o1 o2 failed why k2) → StopsTogetherKeepingUp most g p k0 left now o0 o2 f wider why k2
stops_batch most g p q k0 k1 k2 left mid now o0 o1 o2 f failed wider a b count piece why done held few read kept keeps_up more halts =
    let fed = done.fed [] held in
    let halted = halts (pending_from [] done.taken) fed.0 in
    let h = halted.0 in (
      record {
        taken = done.taken ++ piece;
        input = takes_more left mid now done.taken piece done.input read;
        few = omega (arith, length-append done.taken piece, done.counted);
        cut = lines_are_cut (done.taken ++ piece);
        halted = halted_by_then most g p.state.history q.state.history k0 k1 k2 kept h.0;
        ends = inr
            (batch_from most p q [] done.taken piece o2.written wider h.0.answered h.0.after why fed.1
            (batch_wider most q (lines_from (pending_from [] done.taken) piece) o2.written failed wider h.0.answered h.0.after why more h.1));
      },
      part_keeps_up_then g IsLine p.state.history q.state.history h.0.after k0 k1 k2 o0 o1 o2 kept h.0.kept keeps_up halted.1,
    )

-- it stopped as one that answers each line by itself
pub stops_singly : {K : Type 0} (most : ℕ) (g : Ghosts K) (p : Point) (k0 k1 : K) (left now : Option (List ℕ)) (o0 o1 : Output) (f : Option ℕ) (failed : Type 0) (why : Stop) → 1 ≤ most → StopsInputKeepingUp g p k0 left now o0 o1 f failed why k1
    → StopsTogetherKeepingUp most g p k0 left now o0 o1 f failed why k1
stops_singly most g p k0 k1 left now o0 o1 f failed why some s = (
  record {
    taken = s.0.taken;
    input = s.0.input;
    few = s.0.few;
    cut = s.0.cut;
    halted = halted_few most g p.state.history k0 k1 some s.0.halted;
    ends = inl s.0.ends;
  },
  s.1,
)
