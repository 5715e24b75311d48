-- How events change assignments.
use Rattle.std.specs.Prelude.{◌≡◌, ◌<◌, ⊤, ℕ, List, [], ◌∷◌, Option, Some, None, filter_map}
use Rattle.reg_terms.specs.declared.event.Event.{Event}
use Rattle.reg_terms.specs.declared.event.Event.TheVariants.{FolderGone, GroupGone, DefinitionGone}
use Rattle.reg_terms.specs.declared.event.Event.TheVariants.{AssignMade, AssignGone, ValueAdded}
use Rattle.reg_terms.specs.declared.event.Event.TheVariants.{ValueRemoved}
use Rattle.reg_terms.specs.declared.kinds.Object.TheVariants.{Folder, Group, Def}
use Rattle.reg_terms.specs.declared.rows.AssignRow.{AssignRow}
use Rattle.reg_facts.specs.Events.{happened}
use Rattle.reg_facts.specs.Lists.{Lists}
use Rattle.reg_pit.specs.Assigns.{IsNew, changed, last_after}
use Rattle.reg_pit.specs.Past.{NotedBy, last_assign}
use Rattle.reg_pit.specs.declared.assign_change.AssignChange.{AssignChange}
use Rattle.reg_pit.specs.declared.assign_change.AssignChange.TheVariants as change
use Rattle.reg_pit.specs.declared.past.Past.{Past}

-- what an event does to assignments, if it does something
abbrev pub assign_change_of : Event → Option AssignChange
assign_change_of (FolderGone d) = Some (change.OwnerGone (Folder d))
assign_change_of (GroupGone g) = Some (change.OwnerGone (Group g))
assign_change_of (DefinitionGone a) = Some (change.OwnerGone (Def a))
assign_change_of (AssignMade row) = Some (change.Made row.id row.attribute row.owner)
assign_change_of (AssignGone id) = Some (change.Gone id)
assign_change_of (ValueAdded id v) = Some (change.ValueAdded id v)
assign_change_of (ValueRemoved id v) = Some (change.ValueRemoved id v)
assign_change_of _ = None

-- what some events do to them, in order
abbrev pub assign_changes : List Event → List AssignChange
assign_changes events = filter_map assign_change_of events

-- the assignments after some changes, one after another
abbrev pub all_changed : List AssignChange → List AssignRow → List AssignRow
all_changed [] rows = rows
all_changed (c ∷ cs) rows = all_changed cs (changed c rows)

-- the greatest id of an assignment after them
abbrev pub last_after_all : List AssignChange → ℕ → ℕ
last_after_all [] last = last
last_after_all (c ∷ cs) last = last_after_all cs (last_after c last)

-- each assignment that they make has a later id than all before
abbrev pub AreNew : List AssignChange → ℕ → Type 0
AreNew [] last = ⊤
AreNew (c ∷ cs) last = IsNew c last × AreNew cs (last_after c last)

-- changes may be noted at a moment: nothing was noted later, and what they make is new
pub record MayNote (at : ℕ) (changes : List AssignChange) (past : Past) : Type 0 where
  pub noted : NotedBy at past
  pub new : AreNew changes (last_assign past)

-- an assignment that an event makes has a later id than all before, and no value yet
abbrev pub MakesNew : Event → Lists → Type 0
MakesNew (AssignMade row) f = (f.made.assigns < row.id) × (row.values ≡ [])
MakesNew _ f = ⊤

-- and so have those that some events make, one after another
abbrev pub AllMakeNew : List Event → Lists → Type 0
AllMakeNew [] f = ⊤
AllMakeNew (e ∷ es) f = MakesNew e f × AllMakeNew es (happened e f)
