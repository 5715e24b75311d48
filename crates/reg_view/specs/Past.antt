-- What a history tells of the past, and how it is shown: by the names that stand now, or were the
-- last.
use Rattle.std.specs.Prelude.{ℕ, ◌++◌, List, [], ◌∷◌, Bool, Option, Some, None, codes, map, nat_lt}
use Rattle.std.specs.Prelude.{if◌then◌else◌}
use Rattle.reg_terms.specs.declared.command.Stamped.{Stamped}
use Rattle.reg_terms.specs.declared.kinds.Holder.{Holder}
use Rattle.reg_terms.specs.declared.kinds.Holder.TheVariants as holder
use Rattle.reg_terms.specs.declared.kinds.Object.{Object}
use Rattle.reg_terms.specs.declared.kinds.Object.TheVariants as object
use Rattle.reg_terms.specs.declared.rows.SubjectRow.{SubjectRow}
use Rattle.reg_terms.specs.declared.changes_shown.SpanShown.{SpanShown}
use Rattle.reg_terms.specs.declared.changes_shown.EntryShown.{EntryShown}
use Rattle.reg_log.specs.declared.entries.Entry.{Entry}
use Rattle.reg_log.specs.declared.entries.Line.{Line}
use Rattle.reg_log.specs.Numbering.{numbered}
use Rattle.reg_facts.specs.Lists.{Lists}
use Rattle.reg_facts.specs.Members.{texts_where}
use Rattle.reg_effect.specs.declared.live.Live.{Live}
use Rattle.reg_machine.specs.History as given
use Rattle.reg_machine.specs.History.{State}
use Rattle.reg_current.specs.Live.{live}
use Rattle.reg_machine.specs.Past as machine

-- ---- what is told

-- the facts at a moment, who was a member then (of a group, a person), when a person was a member
-- of a group, what was changed, the groups that went in the order in which they did, each with the
-- name that it had then, the same groups by id, each with the moment at which it went, the name
-- that an object has or had last, and the definition of which an attribute was made
pub record Past : Type 0 where
  pub facts : ℕ → Lists
  pub was : ℕ → ℕ → ℕ → Bool
  pub spans : ℕ → ℕ → List (ℕ × Option ℕ)
  pub lines : List Line
  pub gone : List (ℕ × List ℕ)
  pub gone_by_id : List (ℕ × ℕ)
  pub last_name : Object → List ℕ
  pub def_of : ℕ → Option ℕ

-- what a history tells at a clock
abbrev pub past : List Stamped → ℕ → Past
past history now = record {
  facts = given.facts history;
  was = machine.was_member history;
  spans = machine.spans history now;
  lines = machine.log history now;
  gone = machine.gone_names history now;
  gone_by_id = machine.gone_by_id history now;
  last_name = machine.last_name history now;
  def_of = machine.def_of history now;
}

-- what a state of the machine tells
abbrev pub past_at : State → Past
past_at s = past s.history s.clock

-- what was live at a moment
abbrev pub live_at : State → ℕ → Live
live_at s t = live t (given.facts s.history t)

-- the moment that is asked of: now where none is named, or a later one
abbrev pub moment_of : ℕ → Option ℕ → ℕ
moment_of now None = now
moment_of now (Some at) = if nat_lt now at then now else at

-- ---- groups

-- what is told of a group's past: its members at the moment asked, and the history of its members
pub record GroupPast : Type 0 where
  pub members : List (List ℕ)
  pub history : List SpanShown

-- an interval in which the person of this text was a member
abbrev pub span_shown : List ℕ → ℕ × Option ℕ → SpanShown
span_shown text span = record { from = span.0; subject = text; to = span.1 }

-- when these persons were members of a group
abbrev pub history_of : Past → ℕ → List SubjectRow → List SpanShown
history_of p g [] = []
history_of p g (row ∷ rows) = map (span_shown row.text) (p.spans g row.id) ++ history_of p g rows

-- what is told of a group's past
abbrev pub group_past : Past → Lists → ℕ → ℕ → GroupPast
group_past p f at g = record {
  members = texts_where (p.was at g) f.subjects;
  history = history_of p g f.subjects;
}

-- the last that passes a test
abbrev pub last_where : {A : Type 0} → (A → Bool) → List A → Option A
last_where test [] = None
last_where test (x ∷ xs) =
    elim (last_where test xs) [ Some y ↦ Some y | None ↦ if test x then Some x else None ]

-- of the groups that are gone the one that had this name, and went last
abbrev pub gone_id : Past → List ℕ → Option ℕ
gone_id p text = machine.last_named text p.gone

-- ---- entries of the log

-- the text of what was changed; empty where there is nothing
abbrev pub object_text : Past → Option Object → List ℕ
object_text p None = []
object_text p (Some o) = p.last_name o

-- the text of the member, holder or person; empty where there is none
abbrev pub entity_text : Past → Option Holder → List ℕ
entity_text p None = []
entity_text p (Some holder.Everyone) = codes "g:isa/GrouperAll"
entity_text p (Some (holder.Person s)) = p.last_name (object.Subject s)
entity_text p (Some (holder.Group g)) = codes "g:gsa/" ++ p.last_name (object.Group g)

-- an entry, by texts
abbrev pub entry_shown : Past → Entry → EntryShown
entry_shown p e = record {
  at = e.at;
  entity = entity_text p e.entity;
  kind = e.kind;
  number = e.number;
  object = object_text p e.object;
  seq = e.seq;
}

-- the whole log
abbrev pub log_shown : Past → List EntryShown
log_shown p = map (entry_shown p) (numbered 0 p.lines)
