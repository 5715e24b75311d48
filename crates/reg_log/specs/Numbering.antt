-- Entries of the log by their numbers.
use Rattle.std.specs.Prelude.{ℕ, zero, suc, List, [], ◌∷◌, Option, None, take, drop, option_map}
use Rattle.std.specs.List.{slice_get}
use Rattle.reg_log.specs.declared.entries.Entry.{Entry}
use Rattle.reg_log.specs.declared.entries.Line.{Line}

-- a line of the log with its number
abbrev pub entry_of : ℕ → Line → Entry
entry_of n line = record {
  seq = n;
  at = line.at;
  kind = line.kind;
  object = line.object;
  entity = line.entity;
  number = line.number;
}

-- lines behind a place, each with its number
abbrev pub numbered : ℕ → List Line → List Entry
numbered place [] = []
numbered place (line ∷ lines) = entry_of (suc place) line ∷ numbered (suc place) lines

-- the entries after a place, at most some
abbrev pub entries_after : ℕ → ℕ → List Line → List Entry
entries_after place max lines = numbered place (take max (drop place lines))

-- the moment of an entry, by its number, from 1
abbrev pub moment_of : ℕ → List Line → Option ℕ
moment_of zero lines = None
moment_of (suc n) lines = option_map (λ (line : Line). line.at) (slice_get lines n)
