-- Lines are the bytes cut at each LF, however the bytes come.
use Rattle.std.proofs.Common.{◌≡◌, ◌≢◌, ◌++◌, ◌∷◌, ◌==◌, [], List, ℕ, Result, true, false, refl, ap, sym, ◌∙◌, append_assoc, append-nil, arith}
use Rattle.std.specs.Prelude.{All, if◌then◌else◌}
use Rattle.std.specs.List.{join_with_byte}
use Rattle.std.proofs.lemmas.Bool.{eqb-true, ne_eqb}
use Rattle.std.proofs.lemmas.List.Elements.{All-head, All-tail, All-cons, All-append}
use Rattle.reg_terms.specs.declared.request.Request.{Request}
use Rattle.reg_terms.specs.declared.refusal.Refusal.{Refusal}
use Rattle.reg_json.specs.Reading.{reading_of}
use Rattle.reg_session.specs.Lines.{ended_from, pending_from, lines_from, lines, is_skipped, readings, IsCutAtLineFeeds}

-- bytes and further bytes
pub ended_more : (before xs ys : List ℕ) → ended_from before (xs ++ ys) ≡ ended_from before xs ++ ended_from (pending_from before xs) ys
ended_more before [] ys = refl
ended_more before (x ∷ xs) ys =
    elim (x == 10) as (λ t. (if t then before ∷ ended_from [] (xs ++ ys) else ended_from (before ++ x ∷ []) (xs ++ ys))
    ≡ (if t then before ∷ ended_from [] xs else ended_from (before ++ x ∷ []) xs) ++ ended_from (if t then pending_from [] xs else pending_from (before ++ x ∷ []) xs) ys) [
      | true ↦ ap (λ (l : List (List ℕ)). before ∷ l) (ended_more [] xs ys)
      | false ↦ ended_more (before ++ x ∷ []) xs ys
    ]

pub pending_more : (before xs ys : List ℕ) → pending_from before (xs ++ ys) ≡ pending_from (pending_from before xs) ys
pending_more before [] ys = refl
pending_more before (x ∷ xs) ys =
    elim (x == 10) as (λ t. (if t then pending_from [] (xs ++ ys) else pending_from (before ++ x ∷ []) (xs ++ ys))
    ≡ pending_from (if t then pending_from [] xs else pending_from (before ++ x ∷ []) xs) ys) [
      | true ↦ pending_more [] xs ys
      | false ↦ pending_more (before ++ x ∷ []) xs ys
    ]

pub lines_more : (before xs ys : List ℕ) → lines_from before (xs ++ ys) ≡ ended_from before xs ++ lines_from (pending_from before xs) ys
lines_more before xs ys =
    rw (ended_more before xs ys, pending_more before xs ys) (append_assoc (ended_from before xs) (ended_from (pending_from before xs) ys) (pending_from (pending_from before xs) ys ∷ []))

-- bytes with no LF end no line, and go on with it
pub front_ends : (front line : List ℕ) → All (λ b. b ≢ 10) front → ended_from line front ≡ []
front_ends [] line h = refl
front_ends (b ∷ front) line h =
    let other : b == 10 ≡ false = ne_eqb b 10 (All-head (λ x. x ≢ 10) b front h) in
    rw other (front_ends front (line ++ b ∷ []) (All-tail (λ x. x ≢ 10) b front h))

pub front_pending : (front line : List ℕ) → All (λ b. b ≢ 10) front → pending_from line front ≡ line ++ front
front_pending [] line h = sym (append-nil line)
front_pending (b ∷ front) line h =
    let other : b == 10 ≡ false = ne_eqb b 10 (All-head (λ x. x ≢ 10) b front h) in
    rw other (front_pending front (line ++ b ∷ []) (All-tail (λ x. x ≢ 10) b front h) ∙ append_assoc line (b ∷ []) front)

-- what lines and further lines ask
pub readings_more : (xs ys : List (List ℕ)) → readings (xs ++ ys) ≡ readings xs ++ readings ys
readings_more [] ys = refl
readings_more (x ∷ xs) ys =
    elim (is_skipped x) as (λ t. (if t then readings (xs ++ ys) else reading_of x ∷ readings (xs ++ ys)) ≡ (if t then readings xs else reading_of x ∷ readings xs) ++ readings ys) [
      | true ↦ readings_more xs ys
      | false ↦ ap (λ (l : List (Result Request Refusal)). reading_of x ∷ l) (readings_more xs ys)
    ]

-- a line before other lines
join_more : (x before bs : List ℕ) → join_with_byte 10 (x ∷ lines_from before bs) ≡ x ++ (10 ∷ join_with_byte 10 (lines_from before bs))
join_more x before [] = refl
join_more x before (b ∷ bs) =
    elim (b == 10) as (λ t. join_with_byte 10 (x ∷ ((if t then before ∷ ended_from [] bs else ended_from (before ++ b ∷ []) bs) ++ (if t then pending_from [] bs else pending_from (before ++ b ∷ []) bs) ∷ []))
    ≡ x ++ (10 ∷ join_with_byte 10 ((if t then before ∷ ended_from [] bs else ended_from (before ++ b ∷ []) bs) ++ (if t then pending_from [] bs else pending_from (before ++ b ∷ []) bs) ∷ []))) [
      | true ↦ refl
      | false ↦ join_more x (before ++ b ∷ []) bs
    ]

pub joined_lines : (before bs : List ℕ) → join_with_byte 10 (lines_from before bs) ≡ before ++ bs
joined_lines before [] = sym (append-nil before)
joined_lines before (b ∷ bs) =
    elim (b == 10) as (λ t. b == 10 ≡ t → join_with_byte 10 ((if t then before ∷ ended_from [] bs else ended_from (before ++ b ∷ []) bs) ++ (if t then pending_from [] bs else pending_from (before ++ b ∷ []) bs) ∷ []) ≡ before ++ b ∷ bs) [
      | true ↦ λ e. join_more before [] bs ∙ (rw (eqb-true b 10 e) (ap (λ more. before ++ (10 ∷ more)) (joined_lines [] bs)))
      | false ↦ λ e. joined_lines (before ++ b ∷ []) bs ∙ append_assoc before (b ∷ []) bs
    ] refl

abbrev LacksLineFeed : List ℕ → Type 0
LacksLineFeed line = All (λ b. b ≢ 10) line

none : LacksLineFeed []
none = λ k d h. absurd (omega arith)

no_lines : All LacksLineFeed []
no_lines = λ k d h. absurd (omega arith)

other : (b : ℕ) → b == 10 ≡ false → b ≢ 10
other b e h = cc

further : (before : List ℕ) (b : ℕ) → LacksLineFeed before → b == 10 ≡ false → LacksLineFeed (before ++ b ∷ [])
further before b h e = All-append (λ x. x ≢ 10) before (b ∷ []) h (All-cons (λ x. x ≢ 10) b [] (other b e) none)

apart_lines : (before bs : List ℕ) → LacksLineFeed before → All LacksLineFeed (lines_from before bs)
apart_lines before [] h = All-cons LacksLineFeed before [] h no_lines
apart_lines before (b ∷ bs) h =
    elim (b == 10) as (λ t. b == 10 ≡ t → All LacksLineFeed ((if t then before ∷ ended_from [] bs else ended_from (before ++ b ∷ []) bs) ++ (if t then pending_from [] bs else pending_from (before ++ b ∷ []) bs) ∷ [])) [
      | true ↦ λ e. All-cons LacksLineFeed before (lines_from [] bs) h (apart_lines [] bs none)
      | false ↦ λ e. apart_lines (before ++ b ∷ []) bs (further before b h e)
    ] refl

pub lines_are_cut : (bytes : List ℕ) → IsCutAtLineFeeds (lines bytes) bytes
lines_are_cut bytes = record { joined = joined_lines [] bytes; apart = apart_lines [] bytes none }
