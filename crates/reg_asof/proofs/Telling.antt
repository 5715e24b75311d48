-- From line to line, and how answering ends.
use Rattle.std.proofs.Common.{◌≡◌, ◌≢◌, ◌≤◌, ◌<◌, ◌^◌, ◌+◌, ◌++◌, ◌∷◌, [], List, ℕ, Option, Some, None, Result, Ok, Err, true, false, refl, ap, sym, ◌∙◌, append_assoc, append-nil, arith, length, length-append, take, drop, map, inl, inr, ◌⊎◌, subst}
use Rattle.std.specs.Prelude.{max, All, IfErr, OnErr, OnOk, slice_index}
use Rattle.std.specs.Io.KnownBytes.{append_known, prepend_known, IsAtEnd}
use Rattle.std.proofs.lemmas.List.{take_all, take_more, take-append-le}
use Rattle.std.proofs.Math.Seq.{take-add, take-append-add}
use Rattle.reg_outside.specs.Streams.{WritesFront}
use Rattle.reg_terms.specs.declared.refusal.Refusal.{Refusal}
use Rattle.reg_terms.specs.declared.request.Request.{Request}
use Rattle.reg_terms.specs.declared.request.Op.{Op}
use Rattle.reg_terms.specs.declared.request.Op.TheVariants as op
use Rattle.reg_terms.specs.declared.reply.Reply.{Reply}
use Rattle.reg_machine.specs.History.{State}
use Rattle.reg_json.specs.Reading.{reading_of}
use Rattle.reg_service.specs.Turn.{AsksNoChange, IsQuery, at_moment, requested, turn}
use Rattle.reg_session.specs.Input.{FlushesFor}
use Rattle.reg_session.specs.Lines.{ended_from, ended_lines, is_skipped, lines_from, pending_from, readings}
use Rattle.reg_session.specs.Pending.{Holds}
use Rattle.reg_session.specs.Replies.{IsShown, WritesReply, is_accepted, line_of, lines_of}
use Rattle.reg_session.specs.declared.pending.PendingLine.{PendingLine}
use Rattle.reg_session.specs.declared.stop.Stop.{Stop}
use Rattle.reg_session.specs.declared.stop.Stop.TheVariants as stop
use Rattle.reg_session.proofs.Answering.{append_none, lines_of_more}
use Rattle.reg_session.proofs.Cutting.{ended_more, pending_more, lines_more, front_ends, front_pending, lines_are_cut, readings_more}
use Rattle.reg_session.proofs.Feeding.{first_line, took_none, takes_more}
use Rattle.reg_asof.specs.Told.{MayTell, MayTellAll, Told, ToldInPart, asked_of, asked_op}
use Rattle.reg_asof.specs.Ends.{EndsTelling, HasTold, StopsTelling, Tells, TellsInput}

abbrev Reading : Type 0
Reading = Result Request Refusal

-- ---- results

pub on_err : {T E : Type 0} (P : Type 0) (r : Result T E) → P → OnErr r P
on_err P (Ok x) p = tt
on_err P (Err e) p = p

pub ok_so : {T E : Type 0} (P Q : Type 0) (r : Result T E) → OnOk r P → (P → Q) → OnOk r Q
ok_so P Q (Ok x) p h = h p
ok_so P Q (Err e) p h = tt

pub err_so : {T E : Type 0} (P : Type 0) (Q R : E → Type 0) (r : Result T E) → OnErr r P → IfErr r Q → ((e : E) → P → Q e → R e) → IfErr r R
err_so P Q R (Ok x) p q h = tt
err_so P Q R (Err e) p q h = h e p q

-- ---- lines

append_more : (w : Option (List ℕ)) (xs ys : List ℕ) → append_known (append_known w xs) ys ≡ append_known w (xs ++ ys)
append_more None xs ys = refl
append_more (Some bytes) xs ys = ap Some (append_assoc bytes xs ys)

may_more : (s : State) (rs qs : List Reading) (xs ys : List Reply) → MayTellAll s rs xs → MayTellAll s qs ys → MayTellAll s (rs ++ qs) (xs ++ ys)
may_more s [] qs [] ys one two = two
may_more s [] qs (x ∷ xs) ys one two = elim one [ ]
may_more s (r ∷ rs) qs [] ys one two = elim one [ ]
may_more s (r ∷ rs) qs (x ∷ xs) ys one two = (one.0, may_more s rs qs xs ys one.1 two)

-- the replies that are due may be given
due_all : (s : State) (rs : List Reading) → MayTellAll s rs (map (asked_of s) rs)
due_all s [] = tt
due_all s (r ∷ rs) = (inl refl, due_all s rs)

-- no line
pub told_none : (s : State) (w : Option (List ℕ)) → Told s [] w w
told_none s w = record { replies = []; due = tt; text = append_none w }

-- lines and further lines
pub told_more : (s : State) (xs ys : List (List ℕ)) (a b c : Option (List ℕ)) → Told s xs a b → Told s ys b c → Told s (xs ++ ys) a c
told_more s xs ys a b c one two = record {
  replies = one.replies ++ two.replies;
  due = rw (readings_more xs ys) (may_more s (readings xs) (readings ys) one.replies two.replies one.due two.due);
  text = two.text ∙ (ap (λ (w : Option (List ℕ)). append_known w (lines_of two.replies)) one.text ∙ (append_more a (lines_of one.replies) (lines_of two.replies) ∙ ap (append_known a) (sym (lines_of_more one.replies two.replies))));
}

-- a front of further bytes, once some were written
front_then : (a b c : Option (List ℕ)) (xs ys : List ℕ) → b ≡ append_known a xs → WritesFront b c ys → WritesFront a c (xs ++ ys)
front_then a b c xs ys e w = (
  length xs + w.0,
  omega (arith, length-append xs ys, w.1),
  w.2 ∙ (ap (λ (o : Option (List ℕ)). append_known o (take w.0 ys)) e ∙ (append_more a xs (take w.0 ys) ∙ ap (append_known a) (sym (take-append-add xs ys w.0)))),
)

-- a front of bytes before others
front_wider : (a b : Option (List ℕ)) (xs ys : List ℕ) → WritesFront a b xs → WritesFront a b (xs ++ ys)
front_wider a b xs ys w = (w.0, omega (arith, length-append xs ys, w.1), w.2 ∙ ap (append_known a) (sym (take-append-le w.0 xs ys w.1)))

-- what was written whole is a front of it
pub part_all : (s : State) (ls : List (List ℕ)) (a b : Option (List ℕ)) → Told s ls a b → ToldInPart s ls a b
part_all s ls a b t = record {
  replies = t.replies;
  due = t.due;
  front = (length (lines_of t.replies), omega arith, t.text ∙ ap (append_known a) (sym (take_all (length (lines_of t.replies)) (lines_of t.replies) (omega arith))));
}

-- a front of the replies to lines is one of those to more lines
pub part_wider : (s : State) (xs ys : List (List ℕ)) (a b : Option (List ℕ)) → ToldInPart s xs a b → ToldInPart s (xs ++ ys) a b
part_wider s xs ys a b p =
    let more : List Reply = map (asked_of s) (readings ys) in
    record {
      replies = p.replies ++ more;
      due = rw (readings_more xs ys) (may_more s (readings xs) (readings ys) p.replies more p.due (due_all s (readings ys)));
      front = rw (lines_of_more p.replies more) (front_wider a b (lines_of p.replies) (lines_of more) p.front);
    }

-- lines were answered, and of further ones a part
pub part_then : (s : State) (xs ys : List (List ℕ)) (a b c : Option (List ℕ)) → Told s xs a b → ToldInPart s ys b c → ToldInPart s (xs ++ ys) a c
part_then s xs ys a b c t p = record {
  replies = t.replies ++ p.replies;
  due = rw (readings_more xs ys) (may_more s (readings xs) (readings ys) t.replies p.replies t.due p.due);
  front = rw (lines_of_more t.replies p.replies) (front_then a b c (lines_of t.replies) (lines_of p.replies) t.text p.front);
}

-- ---- one line

-- a line that is skipped
pub told_skipped : (s : State) (line : List ℕ) (w : Option (List ℕ)) → is_skipped line ≡ true → Told s (line ∷ []) w w
told_skipped s line w h = record { replies = []; due = rw h tt; text = append_none w }

shown_told : (s : State) (reading : Reading) (due shown : Reply) → MayTell s reading due → IsShown due shown → MayTell s reading shown
shown_told s reading due shown may (inl e) = rw e may
shown_told s reading due shown may (inr e) = inr e.0

told_by : (s : State) (line : List ℕ) (due : Reply) (old new : Option (List ℕ)) (shown : Reply) → is_skipped line ≡ false → MayTell s (reading_of line) due → IsShown due shown → new ≡ append_known old (line_of shown) → Told s (line ∷ []) old new
told_by s line due old new shown asks may shows wrote = record {
  replies = shown ∷ [];
  due = rw asks (shown_told s (reading_of line) due shown may shows, tt);
  text = wrote ∙ ap (append_known old) (sym (append-nil (line_of shown)));
}

part_by : (s : State) (line : List ℕ) (due : Reply) (old new : Option (List ℕ)) (shown : Reply) → is_skipped line ≡ false → MayTell s (reading_of line) due → IsShown due shown → WritesFront old new (line_of shown) → ToldInPart s (line ∷ []) old new
part_by s line due old new shown asks may shows wrote = record {
  replies = shown ∷ [];
  due = rw asks (shown_told s (reading_of line) due shown may shows, tt);
  front = rw (append-nil (line_of shown)) wrote;
}

-- a line that isn't was answered
pub told_one : {T : Type 0} (s : State) (pending : PendingLine) (due : Reply) (old new : Option (List ℕ)) (r : Result T Stop) → ((line : List ℕ) → Holds pending line → is_skipped line ≡ false)
    → ((line : List ℕ) → Holds pending line → MayTell s (reading_of line) due) → WritesReply due old new r → OnOk r ((line : List ℕ) → Holds pending line → Told s (line ∷ []) old new)
told_one s pending due old new (Ok done) asks may w = λ line held. told_by s line due old new w.0 (asks line held) (may line held) w.1 w.2
told_one s pending due old new (Err why) asks may w = tt

-- or not all of the reply was written
pub part_one : {T : Type 0} (s : State) (pending : PendingLine) (due : Reply) (old new : Option (List ℕ)) (r : Result T Stop) → ((line : List ℕ) → Holds pending line → is_skipped line ≡ false)
    → ((line : List ℕ) → Holds pending line → MayTell s (reading_of line) due) → is_accepted due ≡ false → WritesReply due old new r → OnErr r ((line : List ℕ) → Holds pending line → ToldInPart s (line ∷ []) old new)
part_one s pending due old new (Ok done) asks may plain w = tt
part_one s pending due old new (Err stop.Memory) asks may plain w = let accepted = w.0 in absurd (cc)
part_one s pending due old new (Err stop.Disk) asks may plain w = elim w [ ]
part_one s pending due old new (Err stop.Input) asks may plain w = elim w [ ]
part_one s pending due old new (Err stop.Output) asks may plain w = λ line held. part_by s line due old new w.0 (asks line held) (may line held) w.1 w.2
part_one s pending due old new (Err stop.TooMuch) asks may plain w = elim w [ ]

-- since the output failed
pub wrote_output : {T : Type 0} (due : Reply) (old new : Option (List ℕ)) (rose : Type 0) (r : Result T Stop) → is_accepted due ≡ false → WritesReply due old new r → IfErr r (λ e. e ≡ stop.Output → rose) → IfErr r (λ e. (e ≡ stop.Output) × rose)
wrote_output due old new rose (Ok done) plain w f = tt
wrote_output due old new rose (Err stop.Memory) plain w f = let accepted = w.0 in absurd (cc)
wrote_output due old new rose (Err stop.Disk) plain w f = elim w [ ]
wrote_output due old new rose (Err stop.Input) plain w f = elim w [ ]
wrote_output due old new rose (Err stop.Output) plain w f = (refl, f refl)
wrote_output due old new rose (Err stop.TooMuch) plain w f = elim w [ ]

-- ---- bytes

pub tells_none : (s : State) (pending : PendingLine) (w : Option (List ℕ)) → Tells s pending [] pending w w
tells_none s pending w line held = (held, told_none s w)

pub tells_more : (s : State) (a b c : PendingLine) (xs ys : List ℕ) (u v w : Option (List ℕ)) → Tells s a xs b u v → Tells s b ys c v w → Tells s a (xs ++ ys) c u w
tells_more s a b c xs ys u v w f g line held =
    let one = f line held in
    let two = g (pending_from line xs) one.0 in
    rw (pending_more line xs ys, ended_more line xs ys) (two.0, told_more s (ended_from line xs) (ended_from (pending_from line xs) ys) u v w one.1 two.1)

-- bytes with no LF go on with the line
pub tells_front : (s : State) (a b : PendingLine) (front : List ℕ) (w : Option (List ℕ)) → All (λ b. b ≢ 10) front → ((line : List ℕ) → Holds a line → Holds b (line ++ front)) → Tells s a front b w w
tells_front s a b front w lacks extended line held = rw (front_pending front line lacks, front_ends front line lacks) (extended line held, told_none s w)

tells_line_feed : (s : State) (b c : PendingLine) (byte : ℕ) (v w : Option (List ℕ)) → byte ≡ 10 → ((line : List ℕ) → Holds b line → Told s (line ∷ []) v w) → Holds c [] → Tells s b (byte ∷ []) c v w
tells_line_feed s b c byte v w e told empty line held = rw e (empty, told line held)

-- bytes up to an LF, and the LF
pub tells_line : (s : State) (a b c : PendingLine) (bytes : List ℕ) (n : ℕ) (v w : Option (List ℕ)) → n < length bytes → All (λ b. b ≢ 10) (take n bytes) → slice_index bytes n ≡ 10
    → ((line : List ℕ) → Holds a line → Holds b (line ++ take n bytes)) → ((line : List ℕ) → Holds b line → Told s (line ∷ []) v w) → Holds c [] → Tells s a (take (n + 1) bytes) c v w
tells_line s a b c bytes n v w h lacks there extended told empty =
    rw (take_more bytes n 0 h) (tells_more s a b c (take n bytes) (slice_index bytes n ∷ []) v v w (tells_front s a b (take n bytes) v lacks extended) (tells_line_feed s b c (slice_index bytes n) v w there told empty))

-- the bytes up to a place, and some from there on
pub tells_from : (s : State) (a b c : PendingLine) (piece : List ℕ) (i n : ℕ) (u v w : Option (List ℕ)) → Tells s a (take i piece) b u v → Tells s b (take n (drop i piece)) c v w → Tells s a (take (i + n) piece) c u w
tells_from s a b c piece i n u v w f g = rw (take-add i n piece) (tells_more s a b c (take i piece) (take n (drop i piece)) u v w f g)

-- the output failed at the first line
pub part_first : (s : State) (before bytes : List ℕ) (n : ℕ) (v w : Option (List ℕ)) → n < length bytes → All (λ b. b ≢ 10) (take n bytes) → slice_index bytes n ≡ 10
    → ToldInPart s ((before ++ take n bytes) ∷ []) v w → ToldInPart s (lines_from before bytes) v w
part_first s before bytes n v w h lacks there p =
    rw (first_line before bytes n h lacks there) (part_wider s ((before ++ take n bytes) ∷ []) (lines_from [] (drop (n + 1) bytes)) v w p)

-- or in further bytes
pub part_from : (s : State) (before xs ys : List ℕ) (u v w : Option (List ℕ)) → Told s (ended_from before xs) u v → ToldInPart s (lines_from (pending_from before xs) ys) v w → ToldInPart s (lines_from before (xs ++ ys)) u w
part_from s before xs ys u v w t p = rw (lines_more before xs ys) (part_then s (ended_from before xs) (lines_from (pending_from before xs) ys) u v w t p)

-- ---- the input

pub has_none : (s : State) (left w : Option (List ℕ)) (pending : PendingLine) → HasTold s left left w w pending pending 0
has_none s left w pending = record { taken = []; input = same left; fed = tells_none s pending w; counted = refl }
  where
    same : (o : Option (List ℕ)) → o ≡ prepend_known [] o
    same None = refl
    same (Some bytes) = refl

pub has_more : (s : State) (left mid now u v w : Option (List ℕ)) (a b c : PendingLine) (count n : ℕ) (piece : List ℕ) → HasTold s left mid u v a b count
    → mid ≡ prepend_known piece now → length piece ≡ n → Tells s b piece c v w → HasTold s left now u w a c (count + n)
has_more s left mid now u v w a b c count n piece done read long fed = record {
  taken = done.taken ++ piece;
  input = takes_more left mid now done.taken piece done.input read;
  fed = tells_more s a b c done.taken piece u v w done.fed fed;
  counted = omega (arith, length-append done.taken piece, done.counted, long);
}

-- the input has ended, and all its lines are answered
pub tells_all : (s : State) (left mid now u v w : Option (List ℕ)) (a b : PendingLine) (count k : ℕ) (bs : List ℕ) → HasTold s left mid u v a b count → Holds a [] → count < 2 ^ 32
    → mid ≡ prepend_known (take k bs) now → k ≡ 0 → IsAtEnd now → ((line : List ℕ) → Holds b line → Told s (line ∷ []) v w) → TellsInput s left now u w
tells_all s left mid now u v w a b count k bs done held few read none ended told =
    let fed = done.fed [] held in
    record {
      taken = done.taken;
      input = took_none left mid now done.taken bs k done.input read none;
      ended = ended;
      few = omega (arith, done.counted);
      cut = lines_are_cut done.taken;
      all = told_more s (ended_lines done.taken) (pending_from [] done.taken ∷ []) u v w fed.1 (told (pending_from [] done.taken) fed.0);
    }

-- the output failed: at the last line, or at the flush behind it
pub stops_last : (s : State) (left mid now u v w : Option (List ℕ)) (f : Option ℕ) (a b : PendingLine) (count k : ℕ) (bs : List ℕ) (why : Stop) → HasTold s left mid u v a b count → Holds a [] → count < 2 ^ 32
    → mid ≡ prepend_known (take k bs) now → k ≡ 0 → why ≡ stop.Output → ((line : List ℕ) → Holds b line → ToldInPart s (line ∷ []) v w) → StopsTelling s left now u w f why
stops_last s left mid now u v w f a b count k bs why done held few read none is part =
    let fed = done.fed [] held in
    record {
      taken = done.taken;
      input = took_none left mid now done.taken bs k done.input read none;
      few = omega (arith, done.counted, few);
      cut = lines_are_cut done.taken;
      ends = rw is (part_then s (ended_lines done.taken) (pending_from [] done.taken ∷ []) u v w fed.1 (part (pending_from [] done.taken) fed.0));
    }

-- or at a line of a piece
pub stops_piece : (s : State) (left mid now u v w : Option (List ℕ)) (f : Option ℕ) (a b : PendingLine) (count : ℕ) (piece : List ℕ) (why : Stop) → HasTold s left mid u v a b count → Holds a [] → count + length piece ≤ 2 ^ 32
    → mid ≡ prepend_known piece now → why ≡ stop.Output → ((before : List ℕ) → Holds b before → ToldInPart s (lines_from before piece) v w) → StopsTelling s left now u w f why
stops_piece s left mid now u v w f a b count piece why done held few read is part =
    let fed = done.fed [] held in
    record {
      taken = done.taken ++ piece;
      input = takes_more left mid now done.taken piece done.input read;
      few = omega (arith, length-append done.taken piece, done.counted, few);
      cut = lines_are_cut (done.taken ++ piece);
      ends = rw is (part_from s [] done.taken piece u v w fed.1 (part (pending_from [] done.taken) fed.0));
    }

early_ends : (s : State) (taken : List ℕ) (u w : Option (List ℕ)) (f : Option ℕ) (count : ℕ) (why stopped : Stop) (f0 f1 : ℕ) → length taken ≡ count → count ≤ 2 ^ 32 → Told s (ended_lines taken) u w
    → (why ≡ stop.Input) ⊎ ((why ≡ stop.TooMuch) × (2 ^ 32 ≤ count)) → FlushesFor why stopped w f f0 f1 → EndsTelling s taken u w f stopped
early_ends s taken u w f count why stopped f0 f1 counted few told (inl is) (inl all) = rw (all.0, is) (told, all.1)
early_ends s taken u w f count why stopped f0 f1 counted few told (inr is) (inl all) = rw (all.0, is.0) (told, all.1, omega (arith, counted, few, is.1))
early_ends s taken u w f count why stopped f0 f1 counted few told reason (inr cut) = rw cut.0 (part_wider s (ended_lines taken) (pending_from [] taken ∷ []) u w (part_all s (ended_lines taken) u w told))

-- the input failed, or there was too much of it
pub stops_early : (s : State) (left mid now u v w : Option (List ℕ)) (f : Option ℕ) (a b : PendingLine) (count : ℕ) (why stopped : Stop) (f0 f1 : ℕ) → HasTold s left mid u v a b count → Holds a [] → count ≤ 2 ^ 32
    → now ≡ mid → w ≡ v → (why ≡ stop.Input) ⊎ ((why ≡ stop.TooMuch) × (2 ^ 32 ≤ count)) → FlushesFor why stopped w f f0 f1 → StopsTelling s left now u w f stopped
stops_early s left mid now u v w f a b count why stopped f0 f1 done held few same wrote reason flushes =
    let fed = done.fed [] held in
    let told : Told s (ended_lines done.taken) u w = subst (λ (o : Option (List ℕ)). Told s (ended_lines done.taken) u o) (sym wrote) fed.1 in
    record {
      taken = done.taken;
      input = done.input ∙ ap (prepend_known done.taken) (sym same);
      few = omega (arith, done.counted, few);
      cut = lines_are_cut done.taken;
      ends = early_ends s done.taken u w f count why stopped f0 f1 done.counted few told reason flushes;
    }

-- ---- the registry as it was

same_clock : (s : State) → at_moment s s.clock ≡ s
same_clock s = ap (λ (n : ℕ). record { history = s.history; clock = n }) (clock_stays s.clock)
  where
    clock_stays : (n : ℕ) → max n n ≡ n
    clock_stays n = omega arith

as_then : (s : State) (by : List ℕ) (key : Option (List ℕ)) (asked : Op) → IsQuery asked → asked_op s by asked ≡ (requested s by key asked).0
as_then s by key (op.Command command) h = elim h [ ]
as_then s by key (op.Query query) h = refl
as_then s by key (op.Load job table) h = elim h [ ]

-- what asks for no change is answered as by a registry that may change
pub asked_as_then : (s : State) (reading : Reading) → AsksNoChange reading → asked_of s reading ≡ (turn s s.clock reading).0
asked_as_then s (Err r) h = refl
asked_as_then s (Ok request) h = as_then s request.by request.key request.op h ∙ ap (λ (x : State). (requested x request.by request.key request.op).0) (sym (same_clock s))
