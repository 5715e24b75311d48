-- From byte to byte of a session.
use Rattle.std.proofs.Common.{◌≡◌, ◌≢◌, ◌++◌, ◌∷◌, [], List, ℕ, Option, Some, None, refl, ap, sym, append_assoc, ◌∙◌, ◌+◌, ◌<◌, ◌^◌, take, length, length-append, drop, take-append-drop, arith}
use Rattle.std.specs.Prelude.{All, slice_index}
use Rattle.std.proofs.lemmas.List.{take_more}
use Rattle.std.proofs.Math.Seq.{take-add}
use Rattle.std.specs.Io.KnownBytes.{prepend_known, IsAtEnd}
use Rattle.reg_terms.specs.declared.command.Stamped.{Stamped}
use Rattle.reg_session.specs.Lines.{ended_from, pending_from, lines_from, lines, ended_lines}
use Rattle.reg_session.specs.Pending.{Holds}
use Rattle.reg_session.specs.Answered.{Point, Answered, Feeds}
use Rattle.reg_session.specs.Stops.{StopsIn}
use Rattle.reg_session.specs.Input.{Takes, HasTaken, AnswersInput}
use Rattle.reg_session.specs.declared.pending.PendingLine.{PendingLine}
use Rattle.reg_session.specs.declared.stop.Stop.{Stop}
use Rattle.reg_session.proofs.Cutting.{ended_more, pending_more, lines_more, front_ends, front_pending, lines_are_cut}
use Rattle.reg_session.proofs.Answering.{answered_none, answered_more}
use Rattle.reg_session.proofs.Numbering.{accepted_in, accepted_all}
use Rattle.reg_session.proofs.Stopping.{stops_then, stops_before}

-- no bytes lead nowhere else
pub feeds_none : (p : Point) (pending : PendingLine) → Feeds p pending [] p pending
feeds_none p pending line h = (h, answered_none p)

-- bytes and further bytes
pub feeds_more : (p q r : Point) (a b c : PendingLine) (xs ys : List ℕ) → Feeds p a xs q b → Feeds q b ys r c → Feeds p a (xs ++ ys) r c
feeds_more p q r a b c xs ys f g line h =
    let one = f line h in
    let two = g (pending_from line xs) one.0 in
    rw (pending_more line xs ys, ended_more line xs ys) (two.0, answered_more p q r (ended_from line xs) (ended_from (pending_from line xs) ys) one.1 two.1)

-- bytes with no LF go on with the line
pub feeds_front : (p : Point) (pending kept : PendingLine) (front : List ℕ) → All (λ b. b ≢ 10) front → ((line : List ℕ) → Holds pending line → Holds kept (line ++ front)) → Feeds p pending front p kept
feeds_front p pending kept front lacks extended line h = rw (front_pending front line lacks, front_ends front line lacks) (extended line h, answered_none p)

-- an LF ends the line
feeds_line_feed : (p q : Point) (pending kept : PendingLine) (byte : ℕ) → byte ≡ 10 → ((line : List ℕ) → Holds pending line → Answered p (line ∷ []) q) → Holds kept [] → Feeds p pending (byte ∷ []) q kept
feeds_line_feed p q pending kept byte e answered held line h = rw e (held, answered line h)

-- bytes up to an LF, and the LF
pub feeds_line : (p q : Point) (a b c : PendingLine) (bytes : List ℕ) (n : ℕ) → n < length bytes → All (λ b. b ≢ 10) (take n bytes) → slice_index bytes n ≡ 10
    → ((line : List ℕ) → Holds a line → Holds b (line ++ take n bytes)) → ((line : List ℕ) → Holds b line → Answered p (line ∷ []) q) → Holds c [] → Feeds p a (take (n + 1) bytes) q c
feeds_line p q a b c bytes n h lacks there extended answered held =
    rw (take_more bytes n 0 h) (feeds_more p p q a b c (take n bytes) (slice_index bytes n ∷ []) (feeds_front p a b (take n bytes) lacks extended) (feeds_line_feed p q b c (slice_index bytes n) there answered held))

-- the bytes up to a place, and some from there on
pub feeds_from : (p q r : Point) (a b c : PendingLine) (piece : List ℕ) (i n : ℕ) → Feeds p a (take i piece) q b → Feeds q b (take n (drop i piece)) r c → Feeds p a (take (i + n) piece) r c
feeds_from p q r a b c piece i n f g = rw (take-add i n piece) (feeds_more p q r a b c (take i piece) (take n (drop i piece)) f g)

-- the line that bytes with an LF begin with is the first of theirs
pub first_line : (before bytes : List ℕ) (n : ℕ) → n < length bytes → All (λ b. b ≢ 10) (take n bytes) → slice_index bytes n ≡ 10
    → lines_from before bytes ≡ (before ++ take n bytes) ∷ lines_from [] (drop (n + 1) bytes)
first_line before bytes n h lacks there =
    let rest : List ℕ = drop (n + 1) bytes in
    let whole : take n bytes ++ (slice_index bytes n ∷ rest) ≡ bytes =
    sym (append_assoc (take n bytes) (slice_index bytes n ∷ []) rest) ∙ (ap (λ (l : List ℕ). l ++ rest) (sym (take_more bytes n 0 h)) ∙ take-append-drop (n + 1) bytes) in
    let none : ended_from before (take n bytes) ≡ [] = front_ends (take n bytes) before lacks in
    let first : lines_from (pending_from before (take n bytes)) (slice_index bytes n ∷ rest) ≡ (before ++ take n bytes) ∷ lines_from [] rest = rw (front_pending (take n bytes) before lacks, there) refl in
    let cut : lines_from before (take n bytes ++ (slice_index bytes n ∷ rest)) ≡ ended_from before (take n bytes) ++ lines_from (pending_from before (take n bytes)) (slice_index bytes n ∷ rest) =
    lines_more before (take n bytes) (slice_index bytes n ∷ rest) in
    ap (λ (l : List ℕ). lines_from before l) (sym whole) ∙ (cut ∙ (ap (λ (l : List (List ℕ)). l ++ lines_from (pending_from before (take n bytes)) (slice_index bytes n ∷ rest)) none ∙ first))

-- a stop at it
pub stops_first : (p : Point) (before bytes : List ℕ) (n : ℕ) (w : Option (List ℕ)) (failed : Type 0) (answered after : List Stamped) (why : Stop) → n < length bytes → All (λ b. b ≢ 10) (take n bytes) → slice_index bytes n ≡ 10
    → StopsIn p ((before ++ take n bytes) ∷ []) w failed answered after why → StopsIn p (lines_from before bytes) w failed answered after why
stops_first p before bytes n w failed answered after why h lacks there s =
    rw (first_line before bytes n h lacks there) (stops_before p ((before ++ take n bytes) ∷ []) (lines_from [] (drop (n + 1) bytes)) w failed answered after why s)

-- a stop in further bytes
pub stops_from : (p q : Point) (before xs ys : List ℕ) (w : Option (List ℕ)) (failed : Type 0) (answered after : List Stamped) (why : Stop) → Answered p (ended_from before xs) q
    → StopsIn q (lines_from (pending_from before xs) ys) w failed answered after why → StopsIn p (lines_from before (xs ++ ys)) w failed answered after why
stops_from p q before xs ys w failed answered after why a s =
    rw (lines_more before xs ys) (stops_then p q (ended_from before xs) (lines_from (pending_from before xs) ys) w failed answered after why a s)

-- nothing was taken
pub taken_none : (left : Option (List ℕ)) (p : Point) (pending : PendingLine) → HasTaken left left p p pending pending 0
taken_none left p pending = record { taken = []; input = same left; fed = feeds_none p pending; counted = refl }
  where
    same : (o : Option (List ℕ)) → o ≡ prepend_known [] o
    same None = refl
    same (Some bytes) = refl

pub takes_more : (left mid now : Option (List ℕ)) (xs ys : List ℕ) → Takes left xs mid → Takes mid ys now → Takes left (xs ++ ys) now
takes_more left mid now xs ys one two = one ∙ (rw two (prepend_more now))
  where
    prepend_more : (now : Option (List ℕ)) → prepend_known xs (prepend_known ys now) ≡ prepend_known (xs ++ ys) now
    prepend_more None = refl
    prepend_more (Some rest) = ap Some (sym (append_assoc xs ys rest))

-- a piece more was taken
pub taken_more : (left mid now : Option (List ℕ)) (p q r : Point) (a b c : PendingLine) (count n : ℕ) (piece : List ℕ) → HasTaken left mid p q a b count
    → mid ≡ prepend_known piece now → length piece ≡ n → Feeds q b piece r c → HasTaken left now p r a c (count + n)
taken_more left mid now p q r a b c count n piece done read long fed = record {
  taken = done.taken ++ piece;
  input = takes_more left mid now done.taken piece done.input read;
  fed = feeds_more p q r a b c done.taken piece done.fed fed;
  counted = omega (arith, length-append done.taken piece, done.counted, long);
}

-- a read of nothing takes nothing more
pub took_none : (left mid now : Option (List ℕ)) (taken bs : List ℕ) (k : ℕ) → Takes left taken mid → mid ≡ prepend_known (take k bs) now → k ≡ 0 → Takes left taken now
took_none left mid now taken bs k t e z = t ∙ ap (prepend_known taken) (rw z at e ∙ same now)
  where
    same : (o : Option (List ℕ)) → prepend_known [] o ≡ o
    same None = refl
    same (Some bytes) = refl

-- at the end of the input all lines are answered
pub answers_all : (left mid now : Option (List ℕ)) (p q r : Point) (a b : PendingLine) (count k : ℕ) (bs : List ℕ) → HasTaken left mid p q a b count → Holds a [] → count < 2 ^ 32
    → mid ≡ prepend_known (take k bs) now → k ≡ 0 → IsAtEnd now → ((line : List ℕ) → Holds b line → Answered q (line ∷ []) r) → AnswersInput p left now r
answers_all left mid now p q r a b count k bs done held few read none ended answered =
    let fed = done.fed [] held in
    let all = answered_more p q r (ended_lines done.taken) (pending_from [] done.taken ∷ []) fed.1 (answered (pending_from [] done.taken) fed.0) in
    record {
      taken = done.taken;
      input = took_none left mid now done.taken bs k done.input read none;
      ended = ended;
      few = omega (arith, done.counted);
      cut = lines_are_cut done.taken;
      accepted = accepted_in p r (lines done.taken) all;
      all = accepted_all p r (lines done.taken) all;
    }
