-- Which grants a step may change, told by its events.
use Rattle.std.specs.Prelude.{List, Bool, true, false, Option, None, Some, ◌&&◌, filter_map}
use Rattle.std.specs.Prelude.{if◌then◌else◌}
use Rattle.std.specs.List.{list_any}
use Rattle.reg_terms.specs.Kinds.{same_object}
use Rattle.reg_terms.specs.declared.event.Event.{Event}
use Rattle.reg_terms.specs.declared.event.Event.TheVariants.{GrantAdded, GrantBegan, GrantRemoved}
use Rattle.reg_terms.specs.declared.event.Event.TheVariants.{InheritAdded, InheritRemoved}
use Rattle.reg_terms.specs.declared.event.Event.TheVariants.{FolderMade, FolderRenamed, FolderMoved}
use Rattle.reg_terms.specs.declared.event.Event.TheVariants.{FolderGone, GroupMade, GroupRenamed}
use Rattle.reg_terms.specs.declared.event.Event.TheVariants.{GroupMoved, GroupGone, DefinitionMade}
use Rattle.reg_terms.specs.declared.event.Event.TheVariants.{DefinitionGone, AttributeMade}
use Rattle.reg_terms.specs.declared.event.Event.TheVariants.{AttributeGone}
use Rattle.reg_terms.specs.declared.kinds.Object.{Object}
use Rattle.reg_terms.specs.declared.rows.GrantRow.{GrantRow}
use Rattle.reg_terms.specs.declared.rows.InheritRow.{InheritRow}
use Rattle.reg_priv.specs.Filling.{same_grant}
use Rattle.reg_priv.specs.Grants.{Grant}
use Rattle.reg_priv.specs.Touched.{is_listed}
use Rattle.reg_audit.specs.declared.grant_change.GrantChange.{GrantChange}

-- the one privilege and holder of a grant, on its object
abbrev pub by_grant : GrantRow → GrantChange
by_grant row = record {
  object = Some row.object;
  privilege = row.privilege;
  holder = row.holder;
}

-- those of an inherit, on each object that is touched
abbrev pub by_inherit : InheritRow → GrantChange
by_inherit row = record { object = None; privilege = row.privilege; holder = row.holder }

-- the one privilege and holder whose grants an event may change, where it adds one grant or one
-- inherit, takes one away, or begins one grant
abbrev pub changed_grant : Event → Option GrantChange
changed_grant (GrantAdded row) = Some (by_grant row)
changed_grant (GrantBegan row) = Some (by_grant row)
changed_grant (GrantRemoved row) = Some (by_grant row)
changed_grant (InheritAdded row) = Some (by_inherit row)
changed_grant (InheritRemoved row) = Some (by_inherit row)
changed_grant _ = None

-- the same of some events
abbrev pub changed_grants : List Event → List GrantChange
changed_grants es = filter_map changed_grant es

-- whether an event may change other grants: what grants are on, or what stands in a folder, is
-- made, renamed or moved, or goes
abbrev pub changes_others : Event → Bool
changes_others (FolderMade row) = true
changes_others (FolderRenamed folder extension) = true
changes_others (FolderMoved folder to) = true
changes_others (FolderGone folder) = true
changes_others (GroupMade row) = true
changes_others (GroupRenamed group extension) = true
changes_others (GroupMoved group to) = true
changes_others (GroupGone group) = true
changes_others (DefinitionMade row) = true
changes_others (DefinitionGone definition) = true
changes_others (AttributeMade row) = true
changes_others (AttributeGone attribute) = true
changes_others _ = false

-- whether a privilege of a holder may change: each may where no one is known
abbrev pub may_change : Option Grant → Grant → Bool
may_change None x = true
may_change (Some g) x = same_grant x g

-- whether a change is one on this object, where these are touched
abbrev pub is_on : List Object → Option Object → Object → Bool
is_on touched None o = is_listed o touched
is_on touched (Some other) o = same_object other o

-- whether it is one of this privilege and holder on this object
abbrev pub is_changed : List Object → Object → Grant → GrantChange → Bool
is_changed touched o x c = is_on touched c.object o && same_grant x (c.privilege, c.holder)

-- whether a privilege of a holder on an object may change: by one of the changes, or on each
-- object that is touched where others may change too
abbrev pub is_noted : List Object → Bool → List GrantChange → Object → Grant → Bool
is_noted touched others cs o x =
    if others then is_listed o touched else list_any (is_changed touched o x) cs
