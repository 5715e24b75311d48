-- What is live at a moment, and which person rows are on.
use Rattle.std.specs.Prelude.{◌≡◌, ℕ, Option, Some, None, nat_le, if◌then◌else◌}
use Rattle.std.specs.List.{find}
use Rattle.reg_terms.specs.declared.kinds.Member.TheVariants.{Person}
use Rattle.reg_terms.specs.declared.rows.MemberRow.{MemberRow}
use Rattle.reg_terms.specs.Rows.{is_row}
use Rattle.reg_facts.specs.Lists.{Lists}
use Rattle.reg_effect.specs.declared.live.Live.{Live}
use Rattle.reg_effect.specs.Changes.{live_of}

-- a moment, and the facts then
pub record Now : Type 0 where
  pub clock : ℕ
  pub facts : Lists

-- the rows of the facts that are on at a moment, and the composites
abbrev pub live : ℕ → Lists → Live
live at f = live_of at f.rows f.composites

-- and of a moment and the facts then
abbrev pub live_now : Now → Live
live_now now = live now.clock now.facts

-- a row, if it has begun
abbrev pub begun : ℕ → Option MemberRow → Option MemberRow
begun at None = None
begun at (Some row) = if nat_le row.from at then Some row else None

-- the person's row of a group, if it is on at a moment
abbrev pub row_on : ℕ → ℕ → ℕ → Lists → Option MemberRow
row_on at g s f = begun at (find (is_row g (Person s)) f.rows)

-- the person's row of a group is on
pub record IsOn (now : Now) (g s : ℕ) : Type 0 where
  pub row : MemberRow
  pub on : row_on now.clock g s now.facts ≡ Some row

-- and is so since a moment
pub record IsOnSince (now : Now) (g s from : ℕ) : Type 0 where
  pub row : MemberRow
  pub on : row_on now.clock g s now.facts ≡ Some row
  pub since : row.from ≡ from
