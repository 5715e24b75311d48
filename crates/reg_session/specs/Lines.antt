-- The lines of bytes, and what they ask.
use Rattle.std.specs.Prelude.{◌≡◌, ◌≢◌, ℕ, List, [], ◌∷◌, ◌++◌, ◌==◌, All, Bool, true, false}
use Rattle.std.specs.Prelude.{Result, if◌then◌else◌}
use Rattle.std.specs.List.{join_with_byte}
use Rattle.reg_terms.specs.declared.request.Request.{Request}
use Rattle.reg_terms.specs.declared.refusal.Refusal.{Refusal}
use Rattle.reg_json.specs.Reading.{reading_of}

-- the lines that an LF ends, where the first goes on from the bytes before
abbrev pub ended_from : List ℕ → List ℕ → List (List ℕ)
ended_from before [] = []
ended_from before (b ∷ bs) =
    if b == 10 then before ∷ ended_from [] bs else ended_from (before ++ b ∷ []) bs

-- the bytes behind the last LF, in the same way
abbrev pub pending_from : List ℕ → List ℕ → List ℕ
pending_from before [] = before
pending_from before (b ∷ bs) =
    if b == 10 then pending_from [] bs else pending_from (before ++ b ∷ []) bs

-- the bytes cut at each LF, where the first line goes on from the bytes before
abbrev pub lines_from : List ℕ → List ℕ → List (List ℕ)
lines_from before bytes = ended_from before bytes ++ pending_from before bytes ∷ []

-- the lines of bytes that an LF ends
abbrev pub ended_lines : List ℕ → List (List ℕ)
ended_lines bytes = ended_from [] bytes

-- the lines of bytes; after a last LF stands a line of no bytes
abbrev pub lines : List ℕ → List (List ℕ)
lines bytes = lines_from [] bytes

-- these lines are the bytes cut at each LF: joined by LF they are the bytes, and none holds an LF
pub record IsCutAtLineFeeds (ls : List (List ℕ)) (bytes : List ℕ) : Type 0 where
  pub joined : join_with_byte 10 ls ≡ bytes
  pub apart : All (λ line. All (λ b. b ≢ 10) line) ls

-- a line of no bytes, or of one CR, asks nothing
abbrev pub is_skipped : List ℕ → Bool
is_skipped [] = true
is_skipped (b ∷ []) = b == 13
is_skipped (b ∷ c ∷ bs) = false

-- what lines ask, or why they are refused
abbrev pub readings : List (List ℕ) → List (Result Request Refusal)
readings [] = []
readings (line ∷ ls) = if is_skipped line then readings ls else reading_of line ∷ readings ls
