-- The past that a history gives: its steps one after another, and by them who was a member when,
-- the change log, and what is gone.
use Rattle.std.specs.Prelude.{◌≡◌, ◌≤◌, ⊤, ℕ, zero, suc, ◌*◌, List, [], ◌∷◌, ◌++◌, Bool, true}
use Rattle.std.specs.Prelude.{Option, None, Some, length, map, filter_map, option_map}
use Rattle.std.specs.Prelude.{if◌then◌else◌}
use Rattle.reg_base.specs.declared.entity.Entity.{Entity}
use Rattle.reg_base.specs.declared.privilege.Privilege.{Privilege}
use Rattle.reg_terms.specs.declared.command.Stamped.{Stamped}
use Rattle.reg_terms.specs.declared.command.Command.{Command}
use Rattle.reg_terms.specs.Kinds.{as_group}
use Rattle.reg_terms.specs.declared.kinds.Holder.{Holder}
use Rattle.reg_terms.specs.declared.kinds.Object.{Object}
use Rattle.reg_terms.specs.declared.kinds.Object.TheVariants.{Group, Subject}
use Rattle.reg_facts.specs.Events.{events_of}
use Rattle.reg_facts.specs.Lists as the_facts
use Rattle.reg_facts.specs.Lists.{Lists}
use Rattle.reg_facts.specs.Naming.{name_of}
use Rattle.reg_facts.specs.Rows.{subject_row}
use Rattle.reg_facts.specs.Sound.{has_subject, is_named}
use Rattle.reg_effect.specs.Member.{member}
use Rattle.std.specs.List.{AllByRecursion}
use Rattle.std.specs.Option.{option_or}
use Rattle.std.specs.Ordering.{nat_cmp}
use Rattle.std.specs.Str.{bytes_eq}
use Rattle.reg_audit.specs.Definitions.{definition_in}
use Rattle.reg_audit.specs.Lines.{log_of}
use Rattle.reg_audit.specs.Lives.{life_of, gone_of, gone_name, all_gone}
use Rattle.reg_audit.specs.declared.gone.Gone.{Gone}
use Rattle.reg_audit.specs.Steps.{Step, facts_by, live_by}
use Rattle.reg_log.specs.declared.entries.Line.{Line}
use Rattle.reg_pit.specs.Grants.{has_grant}
use Rattle.reg_pit.specs.Spans.{spans_until}
use Rattle.reg_priv.specs.Grants.{grants}
use Rattle.reg_table.specs.Keyed.{in_order}
use Rattle.reg_current.specs.Dates.{date_actions, date_events, date_passed, due, most_dates, pass}
use Rattle.reg_machine.specs.History.{acted, command_actions, facts, up_to}
use Rattle.reg_current.specs.Live.{live}

-- ---- steps

-- a date that comes, the first one after a moment: the rows and the grants that end there go,
-- grants that begin there are on, and rules act on what that ended
abbrev pub date_step : ℕ → ℕ → Lists → Step
date_step a d f = record {
  at = d;
  before = f;
  events = date_events d f;
  actions = date_actions a d f;
  after = date_passed a d f;
  live = live a f;
  live_after = live d (date_passed a d f);
}

-- a command of a caller at a moment, up to which all dates have come
abbrev pub command_step : ℕ → Entity → Command → Lists → Step
command_step at by command f = record {
  at = at;
  before = f;
  events = events_of at by command f;
  actions = command_actions at by command f;
  after = acted at by command f;
  live = live at f;
  live_after = live at (acted at by command f);
}

-- at most n dates, each the least after the one before
abbrev pub dates_passed_in : ℕ → ℕ → ℕ → Lists → List Step
dates_passed_in zero a b f = []
dates_passed_in (suc n) a b f =
    elim (due a b f) [
      | None ↦ []
      | Some d ↦ date_step a d f
          ∷ dates_passed_in n d b (date_passed a d f)
    ]

-- the dates that come after one moment and up to another
unfoldable pub dates_passed : ℕ → ℕ → Lists → List Step
dates_passed a b f = dates_passed_in (most_dates f) a b f

-- these commands from a moment on, and the dates up to each and up to a last moment
abbrev pub steps_after : ℕ → List Stamped → ℕ → Lists → List Step
steps_after a [] t f = dates_passed a t f
steps_after a (s ∷ ss) t f =
    dates_passed a s.at f ++ command_step s.at s.by s.command (pass a s.at f)
    ∷ steps_after s.at ss t (acted s.at s.by s.command (pass a s.at f))

-- the steps of a history up to a moment
unfoldable pub steps : List Stamped → ℕ → List Step
steps history t = steps_after 0 (up_to t history) t the_facts.start

-- ---- memberships

-- whether a person was an effective member of a group at a moment
abbrev pub was_member : List Stamped → ℕ → ℕ → ℕ → Bool
was_member history t g s = member (live t (facts history t)) g s

-- a step is no later than a moment
abbrev pub IsStepBy : ℕ → Step → Type 0
IsStepBy t step = step.at ≤ t

-- at each moment up to the clock the memberships and the facts are those after the last step up to
-- it
pub record AreLived (history : List Stamped) (clock : ℕ) : Type 0 where
  pub by : AllByRecursion (IsStepBy clock) (steps history clock)
  pub lived : (t g s : ℕ) → t ≤ clock
      → member (live_by t (steps history clock)) g s ≡ was_member history t g s
  pub left : (t : ℕ) → t ≤ clock → facts_by t (steps history clock) ≡ facts history t

-- who was a member at a moment up to the clock stands
abbrev pub AreKnown : List Stamped → ℕ → Type 0
AreKnown history clock =
    (t g s : ℕ) → t ≤ clock → was_member history t g s ≡ true
    → has_subject s (facts history clock).subjects ≡ true

-- the intervals up to now in which a person was an effective member of a group
unfoldable pub spans : List Stamped → ℕ → ℕ → ℕ → List (ℕ × Option ℕ)
spans history now g s = spans_until (λ t. was_member history t g s) now

-- those of some persons, one person after another
abbrev pub all_spans : List Stamped → ℕ → ℕ → List ℕ → List (ℕ × ℕ × Option ℕ)
all_spans history now g [] = []
all_spans history now g (s ∷ ss) =
    map (λ (span : ℕ × Option ℕ). (s, span.0, span.1)) (spans history now g s)
    ++ all_spans history now g ss

-- ---- grants

-- whether a holder had a privilege on an object at a moment, by a grant that was on or an inherit
abbrev pub was_granted : List Stamped → ℕ → Object → Privilege → Holder → Bool
was_granted history t o p h = has_grant (grants o (facts history t)) p h

-- the intervals up to now in which a holder had a privilege on an object
unfoldable pub grant_spans : List Stamped → ℕ → Object → Privilege → Holder → List (ℕ × Option ℕ)
grant_spans history now o p h = spans_until (λ t. was_granted history t o p h) now

-- ---- the change log

-- the change log at a moment: an entry's number is its place, from 1
unfoldable pub log : List Stamped → ℕ → List Line
log history t = log_of (steps history t)

-- the moments of entries
abbrev pub moments_of : List Line → List ℕ
moments_of lines = map (λ (line : Line). line.at) lines

-- none of some numbers is less than one before it
abbrev pub NeverFall : List ℕ → Type 0
NeverFall [] = ⊤
NeverFall (n ∷ ns) = AllByRecursion (λ m. n ≤ m) ns × NeverFall ns

-- ---- what was made, and what is gone

-- the definition of which an attribute was made, if it was ever made
unfoldable pub def_of : List Stamped → ℕ → ℕ → Option ℕ
def_of history now a = definition_in a (steps history now)

-- when an object was made and when it went
unfoldable pub life : List Stamped → ℕ → Object → Option (ℕ × Option ℕ)
life history now o = life_of o (steps history now)

-- the groups that are gone, in the order in which they went
unfoldable pub gone : List Stamped → ℕ → List ℕ
gone history now = gone_of (steps history now)

-- the moment at which what has this life went, if it is gone
abbrev pub end_of : Option (ℕ × Option ℕ) → Option ℕ
end_of None = None
end_of (Some span) = span.1

-- a group with the moment at which it went, if it is gone
abbrev pub group_end : List Stamped → ℕ → ℕ → Option (ℕ × ℕ)
group_end history now g = option_map (λ at. (g, at)) (end_of (life history now (Group g)))

-- the groups that are gone, by id, each with the moment at which it went
unfoldable pub gone_by_id : List Stamped → ℕ → List (ℕ × ℕ)
gone_by_id history now = filter_map (group_end history now) (in_order nat_cmp (gone history now))

-- the name of what stands, or a subject's text
abbrev pub present_name : Object → Lists → List ℕ
present_name (Subject s) f = elim (subject_row s f.subjects) [ None ↦ [] | Some row ↦ row.text ]
present_name o f = if is_named o f then name_of o f else []

-- an object's present name, or the one that it had when it went
unfoldable pub last_name : List Stamped → ℕ → Object → List ℕ
last_name history now o =
    elim (gone_name o (steps history now))
    [ None ↦ present_name o (facts history now) | Some name ↦ name ]

-- the groups among what is gone, each with its name
abbrev pub named_groups : List Gone → List (ℕ × List ℕ)
named_groups [] = []
named_groups (g ∷ gs) =
    elim (as_group (Some g.object)) [
      | None ↦ named_groups gs
      | Some id ↦ (id, g.name)
          ∷ named_groups gs
    ]

-- the groups that are gone, in the order in which they went, each with the name that it had then
unfoldable pub gone_names : List Stamped → ℕ → List (ℕ × List ℕ)
gone_names history now = named_groups (all_gone (steps history now))

-- the last group of this name
abbrev pub last_named : List ℕ → List (ℕ × List ℕ) → Option ℕ
last_named name [] = None
last_named name (g ∷ gs) =
    option_or (last_named name gs) (if bytes_eq g.1 name then Some g.0 else None)

-- the group that went last of those that are gone and had this name then
abbrev pub gone_named : List ℕ → List Stamped → ℕ → Option ℕ
gone_named name history now = last_named name (gone_names history now)
