-- Bytes that wait for a place of a disk.
use Rattle.std.specs.Prelude.{◌≡◌, ℕ, ◌+◌, ◌≤◌, List, length, Option, option_map, IfSome}
use Rattle.reg_outside.specs.Disk.{put}

-- the place where they are to stand, and the bytes
abbrev pub Waiting : Type 0
Waiting = ℕ × List ℕ

-- the place behind them
abbrev pub end_of : Waiting → ℕ
end_of waiting = waiting.0 + length waiting.1

-- the place isn't past the end of a disk's bytes, where these are told
abbrev pub IsWithin : Waiting → Option (List ℕ) → Type 0
IsWithin waiting held = IfSome held (λ bytes. waiting.0 ≤ length bytes)

-- a disk's bytes once those that wait are written
abbrev pub with_waiting : Waiting → Option (List ℕ) → Option (List ℕ)
with_waiting waiting held = option_map (put waiting.0 waiting.1) held

-- a piece more comes behind those that wait, of which some may be written: once all are, the piece
-- stands behind what stood before
pub record Adds (piece : List ℕ) (waiting : Waiting) (held : Option (List ℕ)) (new : Waiting)
    (now : Option (List ℕ)) : Type 0 where
  pub within : IsWithin new now
  pub later : waiting.0 ≤ new.0
  pub long : end_of new ≡ end_of waiting + length piece
  pub whole : with_waiting new now
      ≡ option_map (put (end_of waiting) piece) (with_waiting waiting held)
