-- What the laws of its facts, its past and its answers tell of a registry, for private clauses.
use Rattle.std.specs.Prelude.{◌≡◌, ◌≤◌, ◌++◌, ◌∷◌, ℕ, List, true, Some}
use Rattle.std.specs.List.{AllByRecursion}
use Rattle.reg_terms.specs.declared.command.Stamped.{Stamped}
use Rattle.reg_terms.specs.declared.query.Query.{Query}
use Rattle.reg_terms.specs.declared.rows.AttributeRow.{AttributeRow}
use Rattle.reg_facts.specs.Assigned.{AreAssigned}
use Rattle.reg_facts.specs.Named.{AreNamed}
use Rattle.reg_facts.specs.Rows.{attribute_row}
use Rattle.reg_facts.specs.Sound.{IsSound, has_subject}
use Rattle.reg_priv.specs.declared.who.Who.{Who}
use Rattle.reg_current.specs.Live.{live}
use Rattle.reg_machine.specs.History.{State, facts, now_facts}
use Rattle.reg_machine.specs.Invariant.{IsBy}
use Rattle.reg_machine.specs.Past.{def_of, was_member}
use Rattle.reg_view.specs.Answers.{answer_of}
use Rattle.reg_view.specs.AtClock.{told}
use Rattle.reg_view.specs.Past.{past_at}
use Rattle.reg_view.specs.View.{caller_of}

-- the moments of a history never fall
abbrev pub Rises : List Stamped → Type 0
Rises history =
    (before after : List Stamped) (s : Stamped) → history ≡ before ++ s ∷ after
    → AllByRecursion (IsBy s.at) before

-- who was a member of a group stands
abbrev pub Knows : State → Type 0
Knows s =
    (t g person : ℕ) → t ≤ s.clock → was_member s.history t g person ≡ true
    → has_subject person (now_facts s).subjects ≡ true

-- an attribute that stood was of the definition of which it was made
abbrev pub Defines : State → Type 0
Defines s =
    (t a : ℕ) (row : AttributeRow) → t ≤ s.clock
    → attribute_row a (facts s.history t).attributes ≡ Some row
    → def_of s.history s.clock a ≡ Some row.definition

-- what a caller that stands is told is the answer over the facts and the past
abbrev pub Answers : State → Type 0
Answers s =
    (by : List ℕ) (who : Who) (q : Query) → caller_of by (now_facts s) ≡ Some who
    → told s.history s.clock by q
    ≡ answer_of (past_at s) (live s.clock (now_facts s)) (now_facts s) s.clock by who q

-- all of this
pub record IsLawful (s : State) : Type 0 where
  pub rises : Rises s.history
  pub sound : IsSound (now_facts s)
  pub named : AreNamed (now_facts s)
  pub assigned : AreAssigned (now_facts s)
  pub known : Knows s
  pub defined : Defines s
  pub answers : Answers s
