-- What comes of the lines of a sample: each is asked one moment after the one before, of a registry
-- that begins empty.
use Rattle.std.specs.Prelude.{◌≡◌, ℕ, zero, suc, List, ◌++◌, ◌+◌, codes, length}
use Rattle.std.specs.Fmt.{decimal}
use Rattle.reg_terms.specs.declared.query.Answer.{Answer}
use Rattle.reg_terms.specs.declared.query.Answer.TheVariants as answer
use Rattle.reg_terms.specs.declared.reply.Reply.{Reply}
use Rattle.reg_terms.specs.declared.reply.Reply.TheVariants as reply
use Rattle.reg_json.specs.Reading.{reading_of}
use Rattle.reg_machine.specs.History.{State, start}
use Rattle.reg_machine.specs.Past.{log}
use Rattle.reg_service.specs.Turn.{turn}
use Rattle.reg_sample.specs.Lines.{count, line}
use Rattle.reg_sample.specs.declared.tally.Summary.{Summary}
use Rattle.reg_sample.specs.declared.tally.Tally.{Tally}

-- nothing was replied
abbrev pub nothing : Tally
nothing = record { refused = 0; earlier = 0; latest = 0 }

-- the same after an answer: of the members of a group it counts how many they are, and how many
-- they were at the question before
abbrev pub answered : Tally → Answer → Tally
answered t (answer.Members members) = record {
  refused = t.refused;
  earlier = t.latest;
  latest = length members;
}
answered t _ = t

-- what was counted, after one reply more
abbrev pub counted : Tally → Reply → Tally
counted t (reply.Number n id) = t
counted t (reply.Loaded n counts) = t
counted t (reply.Answer a) = answered t a
counted t (reply.Refused r) = record {
  refused = t.refused + 1;
  earlier = t.earlier;
  latest = t.latest;
}
counted t reply.NoMemory = t
counted t reply.KeepFault = t

-- where a sample stands: the registry, and what was counted
pub record Point : Type 0 where
  pub state : State
  pub tally : Tally

-- the registry and what was counted are those of this point
abbrev pub IsAt : Point → State → Tally → Type 0
IsAt p state tally = (state ≡ p.state) × (tally ≡ p.tally)

-- the same after the line of this number, which is asked at the moment behind its number
abbrev pub asked : ℕ → ℕ → ℕ → Point → Point
asked seed size k p = record {
  state = (turn p.state (k + 1) (reading_of (line seed size k))).1;
  tally = counted p.tally (turn p.state (k + 1) (reading_of (line seed size k))).0;
}

-- after so many lines
unfoldable pub played : ℕ → ℕ → ℕ → Point
played seed size zero = record { state = start; tally = nothing }
played seed size (suc k) = asked seed size k (played seed size k)

-- what is told of a sample: how many lines there were, and how many were refused; the commands in
-- the history and the entries in the change log; and how many members the last two answers of
-- members have, which are those of one group before the second load and after it
abbrev pub told : ℕ → Point → Summary
told size p = record {
  requests = count size;
  refused = p.tally.refused;
  commands = length p.state.history;
  entries = length (log p.state.history p.state.clock);
  earlier = p.tally.earlier;
  latest = p.tally.latest;
}

-- the summary of a sample
abbrev pub summary : ℕ → ℕ → Summary
summary seed size = told size (played seed size (count size))

-- a line of a word and a number
abbrev pub number_line : List ℕ → ℕ → List ℕ
number_line word n = (word ++ decimal n) ++ codes "\n"

-- its text, in six lines
abbrev pub summary_text : Summary → List ℕ
summary_text s =
    ((((number_line (codes "requests ") s.requests ++ number_line (codes "refused ") s.refused)
    ++ number_line (codes "commands ") s.commands) ++ number_line (codes "entries ") s.entries)
    ++ number_line (codes "before ") s.earlier) ++ number_line (codes "now ") s.latest
