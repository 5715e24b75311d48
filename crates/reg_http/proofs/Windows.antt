-- Bytes and the window in which their head must end.
use Rattle.std.proofs.Common.{◌≡◌, ℕ, min, ◌+◌, ◌-◌, ◌≤◌, List, ◌++◌, length, take, drop, arith, ap, sym, ◌∙◌, subst, append_assoc, length-append}
use Rattle.std.proofs.lemmas.List.{take-append-drop, take-append-le, take-take, take_min, length-take}
use Rattle.std.proofs.Math.Seq.{take-append-add}
use Rattle.httparse.specs.Grammar.{RequestHead, print_request, ReadsRequest, HasNoRequest, NeverHasRequest}
use Rattle.httparse.proofs.GrammarLemmas.{ReadsRequest-append, request_unique}
use Rattle.reg_http.specs.Messages.{window, BeginsWith}
use Rattle.reg_http.proofs.Room.{window_small}

-- a head in the window is one of the bytes
pub begins_by_window : (bytes : List ℕ) (head : RequestHead) (rest : List ℕ) → ReadsRequest (window bytes) head rest → BeginsWith bytes head (rest ++ drop 16384 bytes)
begins_by_window bytes head rest (valid, text) = record {
  reads = subst (λ all. ReadsRequest all head (rest ++ drop 16384 bytes)) (take-append-drop 16384 bytes) (ReadsRequest-append (window bytes) head rest (drop 16384 bytes) (valid, text));
  small = omega (arith, window_small bytes, ap length text, length-append (print_request head) rest);
}

-- and the other way round
pub window_by_begins : (bytes : List ℕ) (head : RequestHead) (rest : List ℕ) → BeginsWith bytes head rest → (later : List ℕ) × ReadsRequest (window bytes) head later
window_by_begins bytes head rest begins =
    let n = 16384 - length (print_request head) in
    let all : 16384 ≡ length (print_request head) + n = omega (arith, begins.small) in
    (take n rest, (begins.reads.0, ap window begins.reads.1 ∙ ap (λ k. take k (print_request head ++ rest)) all ∙ take-append-add (print_request head) rest n))

-- more bytes come after the rest
pub begins_more : (bytes more : List ℕ) (head : RequestHead) (rest : List ℕ) → BeginsWith bytes head rest → BeginsWith (bytes ++ more) head (rest ++ more)
begins_more bytes more head rest begins = record { reads = ReadsRequest-append bytes head rest more begins.reads; small = begins.small }

-- there is one head at most
pub begins_unique : (bytes : List ℕ) (head other : RequestHead) (rest left : List ℕ) → BeginsWith bytes head rest → BeginsWith bytes other left → (head ≡ other) × (rest ≡ left)
begins_unique bytes head other rest left one two = request_unique bytes head other rest left one.reads two.reads

-- the window of more bytes begins with the window of these
window_more : (bytes more : List ℕ) → window bytes ++ drop (length (window bytes)) (window (bytes ++ more)) ≡ window (bytes ++ more)
window_more bytes more =
    let n = length (window bytes) in
    let size : n ≡ min 16384 (length bytes) = length-take 16384 bytes in
    let front : take n (window (bytes ++ more)) ≡ window bytes =
    take-take n 16384 (bytes ++ more) (omega (arith, size)) ∙ take-append-le n bytes more (omega (arith, size)) ∙ ap (λ k. take k bytes) size ∙ take_min 16384 bytes in
    ap (λ w. w ++ drop n (window (bytes ++ more))) (sym front) ∙ take-append-drop n (window (bytes ++ more))

-- what no bytes can make a head stays so
pub never_more : (bytes more : List ℕ) → NeverHasRequest (window bytes) → NeverHasRequest (window (bytes ++ more))
never_more bytes more never =
    let x = drop (length (window bytes)) (window (bytes ++ more)) in
    subst NeverHasRequest (window_more bytes more) (λ m. subst HasNoRequest (sym (append_assoc (window bytes) x m)) (never (x ++ m)))

-- a full window stays
pub window_full : (bytes more : List ℕ) → 16384 ≤ length bytes → window (bytes ++ more) ≡ window bytes
window_full bytes more full = take-append-le 16384 bytes more full
