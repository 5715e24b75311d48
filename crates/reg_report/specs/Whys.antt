-- What is printed of why a person is, or isn't, an effective member of a group.
use Rattle.std.specs.Prelude.{◌≡◌, ℕ, List, Result}
use Rattle.reg_terms.specs.declared.refusal.Refusal.{Refusal}
use Rattle.reg_effect.specs.Member.{member}
use Rattle.reg_current.specs.Live.{live}
use Rattle.reg_machine.specs.History.{State, now_facts}
use Rattle.reg_reasons.specs.Stated.{IsExplained}
use Rattle.reg_reasons.specs.Ways.{begun}
use Rattle.reg_reasons.specs.declared.statement.Statement.{Statement}
use Rattle.reg_report.specs.Asked.{why_asked}
use Rattle.reg_report.specs.Lines.{line}
use Rattle.reg_report.specs.Printed.{Printed}
use Rattle.reg_report.specs.WhyLines.{why_data}

-- these bytes are the line of whether a person is a member of a group now, and why: of the rows
-- that are on, and at most 100 ways for a group
pub record IsWhyLine (s : State) (person group : ℕ) (bytes : List ℕ) : Type 0 where
  pub statements : List Statement
  pub those : IsExplained (live s.clock (now_facts s)) (begun s.clock (now_facts s).rows) person 100
      group statements
  pub prints : bytes
      ≡ line (why_data (now_facts s) (member (live s.clock (now_facts s)) group person) statements)

-- what is told of why a person is, or isn't, a member of a group
abbrev pub WhyTold : State → List ℕ → List ℕ → Result (List ℕ) Refusal → Type 0
WhyTold s subject group told =
    Printed (why_asked subject group (now_facts s))
    (λ (asked : ℕ × ℕ) bytes. IsWhyLine s asked.0 asked.1 bytes) told
