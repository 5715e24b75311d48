-- The lines of a history's commands: each its text and LF, in order, with its number from 1 on, its
-- place in the journal and the id of what it made.
use Rattle.std.specs.Prelude.{◌≤◌, ℕ, ◌+◌, List, [], ◌∷◌, ◌++◌, Option, Some, None}
use Rattle.std.specs.Prelude.{if◌then◌else◌, ◌&&◌, Bool, nat_le}
use Rattle.reg_terms.specs.declared.command.Command.{Command}
use Rattle.reg_terms.specs.declared.command.Command.TheVariants.{AssignAdd, RuleRemoveLost}
use Rattle.reg_terms.specs.declared.command.Command.TheVariants.{RuleEndLost, RuleVeto}
use Rattle.reg_terms.specs.declared.command.Command.TheVariants.{RuleOnCreate}
use Rattle.reg_terms.specs.declared.command.Stamped.{Stamped}
use Rattle.reg_export.specs.Lines.{command_text}
use Rattle.reg_export.specs.declared.counts.Counts.{Counts}

-- no command made anything yet
abbrev pub nothing_made : Counts
nothing_made = record { assigns = 0; rules = 0 }

-- the id of what a command makes after commands that made so many, where it has one and no name: an
-- assignment's or a rule's, one more than there ever were
unfoldable pub made_by : Counts → Command → Option ℕ
made_by n (AssignAdd attribute object) = Some (n.assigns + 1)
made_by n (RuleRemoveLost check owner) = Some (n.rules + 1)
made_by n (RuleEndLost check owner days) = Some (n.rules + 1)
made_by n (RuleVeto owner condition) = Some (n.rules + 1)
made_by n (RuleOnCreate folder scope privilege holder) = Some (n.rules + 1)
made_by n _ = None

-- how many there are after it
unfoldable pub made_after : Counts → Command → Counts
made_after n (AssignAdd attribute object) = record n { assigns = n.assigns + 1 }
made_after n (RuleRemoveLost check owner) = record n { rules = n.rules + 1 }
made_after n (RuleEndLost check owner days) = record n { rules = n.rules + 1 }
made_after n (RuleVeto owner condition) = record n { rules = n.rules + 1 }
made_after n (RuleOnCreate folder scope privilege holder) = record n { rules = n.rules + 1 }
made_after n _ = n

-- whether a number is one from the first on and no later than the last
abbrev pub is_asked : (from to number : ℕ) → Bool
is_asked from to number = nat_le from number && nat_le number to

-- A command as a list has it: the place at which its frame begins in the journal, the id of what it
-- made, where that has one and no name, and the command with its moment and its caller.
pub record Row : Type 0 where
  pub place : ℕ
  pub made : Option ℕ
  pub stamped : Stamped

-- the line of the command of a number, where that is asked for
abbrev pub line_at : (from to number : ℕ) → Row → List ℕ
line_at from to number row =
    if is_asked from to number then command_text number row.place row.made row.stamped ++ 10 ∷ []
    else []

-- the lines of these commands, of which the first has this number
abbrev pub listed : (from to number : ℕ) → List Row → List ℕ
listed from to number [] = []
listed from to number (row ∷ rows) = line_at from to number row ++ listed from to (number + 1) rows

-- the lines of a history's commands from the first of these numbers to the last
abbrev pub listing : (from to : ℕ) → List Row → List ℕ
listing from to rows = listed from to 1 rows

-- commands at their places, each with the id of what it made after commands that made so many
abbrev pub counted : Counts → List (ℕ × Stamped) → List Row
counted n [] = []
counted n (c ∷ cs) =
    record { place = c.0; made = made_by n c.1.command; stamped = c.1 }
    ∷ counted (made_after n c.1.command) cs

-- ---- for private clauses

-- Where a listing stands: from which number to which it goes, how many commands it went over, how
-- many of what has an id these made, and the lines that weren't taken from it.
pub record Progress : Type 0 where
  pub from : ℕ
  pub to : ℕ
  pub number : ℕ
  pub counts : Counts
  pub lines : List ℕ

-- it went over nothing
abbrev pub beginning : (from to : ℕ) → Progress
beginning from to =
    record { from = from; to = to; number = 0; counts = nothing_made; lines = [] }

-- it went over one command more, which stands at this place
abbrev pub with_command : Progress → ℕ → Stamped → Progress
with_command p place s = record {
  from = p.from;
  to = p.to;
  number = p.number + 1;
  counts = made_after p.counts s.command;
  lines = p.lines
      ++ line_at p.from p.to (p.number + 1)
      (record { place = place; made = made_by p.counts s.command; stamped = s });
}

-- its lines were taken away
abbrev pub cleared : Progress → Progress
cleared p = record p { lines = [] }

-- so many commands made no more than one thing each
pub record IsCounted (number : ℕ) (n : Counts) : Type 0 where
  pub assigns : n.assigns ≤ number
  pub rules : n.rules ≤ number
