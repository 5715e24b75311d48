-- The entries that a step makes in the change log: what was changed directly, what rules did, and
-- the memberships that began and ended.
use Rattle.std.specs.Prelude.{ℕ, ◌||◌, List, ◌++◌, Bool, not, Option, Some, None, map, filter}
use Rattle.std.specs.Prelude.{filter_map, flat_map, option_map, if◌then◌else◌}
use Rattle.std.specs.List.{list_any}
use Rattle.reg_base.specs.declared.privilege.Privilege.{Privilege}
use Rattle.reg_terms.specs.Privileges.{code}
use Rattle.reg_terms.specs.declared.event.Event.{Event}
use Rattle.reg_terms.specs.declared.event.Event.TheVariants.{FolderMade, FolderRenamed, FolderMoved}
use Rattle.reg_terms.specs.declared.event.Event.TheVariants.{FolderGone, SubjectMade, GroupMade}
use Rattle.reg_terms.specs.declared.event.Event.TheVariants.{GroupRenamed, GroupMoved, GroupGone}
use Rattle.reg_terms.specs.declared.event.Event.TheVariants.{RowAdded, RowRemoved, RowRedated}
use Rattle.reg_terms.specs.declared.event.Event.TheVariants.{Composed, Decomposed, GrantAdded}
use Rattle.reg_terms.specs.declared.event.Event.TheVariants.{GrantBegan, GrantRemoved, InheritAdded}
use Rattle.reg_terms.specs.declared.event.Event.TheVariants.{InheritRemoved, DefinitionMade}
use Rattle.reg_terms.specs.declared.event.Event.TheVariants.{DefinitionGone, AttributeMade}
use Rattle.reg_terms.specs.declared.event.Event.TheVariants.{AttributeGone, AssignMade, AssignGone}
use Rattle.reg_terms.specs.declared.event.Event.TheVariants.{ValueAdded, ValueRemoved, RuleMade}
use Rattle.reg_terms.specs.declared.event.Event.TheVariants.{RuleGone, JobMade, JobGone}
use Rattle.reg_terms.specs.declared.event.Event.TheVariants.{ConsumerAdded, ConsumerAcked}
use Rattle.reg_terms.specs.declared.kinds.Holder.{Holder}
use Rattle.reg_terms.specs.declared.kinds.Holder.TheVariants as holder
use Rattle.reg_terms.specs.declared.kinds.Member.{Member}
use Rattle.reg_terms.specs.declared.kinds.Member.TheVariants as member
use Rattle.reg_terms.specs.declared.kinds.Object.{Object}
use Rattle.reg_terms.specs.declared.kinds.Object.TheVariants as object
use Rattle.reg_terms.specs.declared.rows.AssignRow.{AssignRow}
use Rattle.reg_facts.specs.Attributes.{assign_row}
use Rattle.reg_facts.specs.Lists.{Lists}
use Rattle.reg_effect.specs.declared.live.Live.{Live}
use Rattle.reg_effect.specs.Turned.{turns}
use Rattle.reg_rules.specs.declared.actions.Action.{Action}
use Rattle.reg_rules.specs.declared.actions.Action.TheVariants.{Removed, Ended}
use Rattle.reg_log.specs.declared.entries.Line.{Line}
use Rattle.reg_terms.specs.declared.entry_kinds.EntryKind.{EntryKind}
use Rattle.reg_terms.specs.declared.entry_kinds.EntryKind.TheVariants as kind
use Rattle.reg_audit.specs.Objects.{is_deletion}
use Rattle.reg_audit.specs.Steps.{Step}

-- an entry of an object alone
abbrev pub object_line : ℕ → EntryKind → Object → Line
object_line at k o = record { at = at; kind = k; object = Some o; entity = None; number = 0 }

-- a member as an entity
abbrev pub entity_of : Member → Holder
entity_of (member.Person s) = holder.Person s
entity_of (member.Group g) = holder.Group g

-- an entry of a row of a group
abbrev pub row_line : ℕ → EntryKind → ℕ → Member → Line
row_line at k g m = record {
  at = at;
  kind = k;
  object = Some (object.Group g);
  entity = Some (entity_of m);
  number = 0;
}

-- an entry of a privilege of a holder on an object, with the privilege's code
abbrev pub grant_line : ℕ → EntryKind → Object → Holder → Privilege → Line
grant_line at k o h p = record {
  at = at;
  kind = k;
  object = Some o;
  entity = Some h;
  number = code p;
}

-- an entry of a rule or of a loader job, with its number alone
abbrev pub number_line : ℕ → EntryKind → ℕ → Line
number_line at k id = record { at = at; kind = k; object = None; entity = None; number = id }

-- the owner of an assignment, if that stands
abbrev pub assign_owner : ℕ → Lists → Option Object
assign_owner id f = option_map (λ (row : AssignRow). row.owner) (assign_row id f.assigns)

-- an entry of an assignment to an owner, with the assignment's number
abbrev pub assign_line : ℕ → EntryKind → Option Object → ℕ → Line
assign_line at k owner id = record { at = at; kind = k; object = owner; entity = None; number = id }

-- the entry of an event, if it makes one, by the facts before all events of its step: a grant that
-- begins makes none, since its entry was made when it was written
abbrev pub line_of : ℕ → Lists → Event → Option Line
line_of at before (FolderMade row) = Some (object_line at kind.FolderAdd (object.Folder row.id))
line_of at before (FolderRenamed d extension) =
    Some (object_line at kind.FolderRename (object.Folder d))
line_of at before (FolderMoved d to) = Some (object_line at kind.FolderMove (object.Folder d))
line_of at before (FolderGone d) = Some (object_line at kind.FolderDelete (object.Folder d))
line_of at before (SubjectMade row) = Some (object_line at kind.SubjectAdd (object.Subject row.id))
line_of at before (GroupMade row) = Some (object_line at kind.GroupAdd (object.Group row.id))
line_of at before (GroupRenamed g extension) =
    Some (object_line at kind.GroupRename (object.Group g))
line_of at before (GroupMoved g to) = Some (object_line at kind.GroupMove (object.Group g))
line_of at before (GroupGone g) = Some (object_line at kind.GroupDelete (object.Group g))
line_of at before (RowAdded row) = Some (row_line at kind.RowAdd row.group row.member)
line_of at before (RowRemoved g m) = Some (row_line at kind.RowRemove g m)
line_of at before (RowRedated g m from until) = Some (row_line at kind.RowWindow g m)
line_of at before (Composed row) = Some (object_line at kind.CompositeSet (object.Group row.group))
line_of at before (Decomposed g) = Some (object_line at kind.CompositeClear (object.Group g))
line_of at before (GrantAdded row) =
    Some (grant_line at kind.GrantAdd row.object row.holder row.privilege)
line_of at before (GrantBegan row) = None
line_of at before (GrantRemoved row) =
    Some (grant_line at kind.GrantRemove row.object row.holder row.privilege)
line_of at before (InheritAdded row) =
    Some (grant_line at kind.InheritAdd (object.Folder row.folder) row.holder row.privilege)
line_of at before (InheritRemoved row) =
    Some (grant_line at kind.InheritRemove (object.Folder row.folder) row.holder row.privilege)
line_of at before (DefinitionMade row) =
    Some (object_line at kind.DefinitionAdd (object.Def row.id))
line_of at before (DefinitionGone a) = Some (object_line at kind.DefinitionDelete (object.Def a))
line_of at before (AttributeMade row) = Some (object_line at kind.AttributeAdd (object.Attr row.id))
line_of at before (AttributeGone a) = Some (object_line at kind.AttributeDelete (object.Attr a))
line_of at before (AssignMade row) = Some (assign_line at kind.AssignAdd (Some row.owner) row.id)
line_of at before (AssignGone id) =
    Some (assign_line at kind.AssignRemove (assign_owner id before) id)
line_of at before (ValueAdded id v) =
    Some (assign_line at kind.ValueAdd (assign_owner id before) id)
line_of at before (ValueRemoved id v) =
    Some (assign_line at kind.ValueRemove (assign_owner id before) id)
line_of at before (RuleMade row) = Some (number_line at kind.RuleAdd row.id)
line_of at before (RuleGone id) = Some (number_line at kind.RuleDelete id)
line_of at before (JobMade row) = Some (number_line at kind.JobAdd row.id)
line_of at before (JobGone id) = Some (number_line at kind.JobDelete id)
line_of at before (ConsumerAdded row) = None
line_of at before (ConsumerAcked consumer seq) = None

-- whether an event makes an entry beside others, of which some delete an object or none does: what
-- goes together with a deleted object makes none
abbrev pub is_told : Bool → Event → Bool
is_told deletion e = is_deletion e || not deletion

-- what is changed directly, by the facts before
abbrev pub direct_lines : ℕ → Lists → List Event → List Line
direct_lines at before events =
    filter_map (line_of at before) (filter (is_told (list_any is_deletion events)) events)

-- an entry of what a rule did to a person's row of a group, with the rule's number
abbrev pub acted_line : ℕ → EntryKind → ℕ → ℕ → ℕ → Line
acted_line at k rule g s = record (row_line at k g (member.Person s)) { number = rule }

-- the entry of what a rule did: a row that it took away, or one to which it gave an end
abbrev pub action_line : ℕ → Action → Line
action_line at (Removed rule g s) = acted_line at kind.RowRemove rule g s
action_line at (Ended rule g s until) = acted_line at kind.RowWindow rule g s

-- what rules did, one after another
abbrev pub action_lines : ℕ → List Action → List Line
action_lines at actions = map (action_line at) actions

-- a membership begins or ends
abbrev pub turn_line : ℕ → ℕ × ℕ × Bool → Line
turn_line at turn =
    row_line at (if turn.2 then kind.MemberBegin else kind.MemberEnd) turn.0 (member.Person turn.1)

-- the memberships that begin and end from live data L to N, by group and person
abbrev pub turn_lines : ℕ → Live → Live → List Line
turn_lines at L N = map (turn_line at) (turns L N)

-- the entries of a step: what was changed directly, then what rules did, and then the memberships
abbrev pub lines_of : Step → List Line
lines_of step =
    direct_lines step.at step.before step.events ++ action_lines step.at step.actions
    ++ turn_lines step.at step.live step.live_after

-- the change log: the entries of each step, one step after another; an entry's number is its place,
-- from 1
unfoldable pub log_of : List Step → List Line
log_of steps = flat_map lines_of steps
