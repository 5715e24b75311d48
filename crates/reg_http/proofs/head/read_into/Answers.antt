use Rattle.std.proofs.Common.{ℕ, List, refl, inl, inr}
use Rattle.httparse.specs.Grammar.{RequestHead, ReadsRequest}
use Rattle.httparse.specs.Spans.{IsRequestOf, IsRequestAt}
use Rattle.httparse.specs.declared.spans.HeaderSpan.{HeaderSpan}
use Rattle.httparse.specs.declared.spans.RequestSpans.{RequestSpans}
use Rattle.reg_http.specs.declared.head.Front.{Front}
use Rattle.reg_http.specs.declared.head.Front.TheVariants as front
use Rattle.reg_http.specs.Messages.{window}
use Rattle.reg_http.specs.Fronts.{IsJudged, IsFront}
use Rattle.reg_http.proofs.Room.{never_exceeds, window_small}
use Rattle.reg_http.proofs.Windows.{begins_by_window}
use Rattle.reg_http.proofs.head.read_into.Goals as goal

judged : (bytes : List ℕ) (head : RequestHead) (rest : List ℕ) (found : Front) → ReadsRequest (window bytes) head rest → IsJudged head found → IsFront bytes found
judged bytes head rest (front.Head read) reads is = record { head = head; rest = _; begins = begins_by_window bytes head rest reads; read_is = is }
judged bytes head rest front.NeedMore reads is = absurd is
judged bytes head rest (front.Bad fault) reads is = inl record { head = head; rest = _; begins = begins_by_window bytes head rest reads; fault_is = is }

judged_of : (bytes : List ℕ) (headers : List HeaderSpan) (spans : RequestSpans) (found : Front) → IsRequestOf (window bytes) headers spans
    → ((head : RequestHead) → IsRequestAt (window bytes) headers spans head → IsJudged head found) → IsFront bytes found
judged_of bytes headers spans found (head, at) is = judged bytes head _ found at.reads (is head at)

pub returns-in_ok-judge-in-Ok-Complete-clause-front : goal.returns-in_ok-judge-in-Ok-Complete-clause-front
returns-in_ok-judge-in-Ok-Complete-clause-front c =
    let read = rw (c.window_of-window.ensures, c.in-Ok-Complete.field-0-is) at c.in-Ok-Complete.ensures.complete in
    judged_of c.args.bytes.now c.parse_request.new.headers c.in-Ok-Complete.spans _ read (rw c.window_of-window.ensures at c.in_ok-judge-in-Ok-Complete.ensures)

pub returns-else-bytes-lt-HEAD_LIMIT-clause-front : goal.returns-else-bytes-lt-HEAD_LIMIT-clause-front
returns-else-bytes-lt-HEAD_LIMIT-clause-front c =
    inr (inl record {
      fault_is = refl;
      long = c.if-bytes-lt-HEAD_LIMIT.false;
      open_still = record {
        none = rw (c.window_of-window.ensures, c.in-Ok-Partial.field-0-is) at c.in-Ok-Partial.ensures.partial;
        coming = rw (c.window_of-window.ensures, c.in-Ok-Partial.field-0-is) at c.in-Ok-Partial.ensures.unfinished;
      };
    })

pub returns-in-Err-TooManyHeaders-clause-room : goal.returns-in-Err-TooManyHeaders-clause-room
returns-in-Err-TooManyHeaders-clause-room c room =
    let over = rw c.window_of-window.ensures at c.in-Err-TooManyHeaders.ensures.too_many in
    absurd (never_exceeds _ _ room (window_small c.args.bytes.now) (over (rw c.in-Err-TooManyHeaders.field-0-is refl)))
