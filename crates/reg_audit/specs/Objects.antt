-- Which objects events make, and which ones go by them.
use Rattle.std.specs.Prelude.{List, Bool, Option, Some, None, filter_map}
use Rattle.std.specs.Option.{is_some}
use Rattle.std.specs.List.{list_any}
use Rattle.reg_terms.specs.Kinds.{same_object}
use Rattle.reg_terms.specs.declared.event.Event.{Event}
use Rattle.reg_terms.specs.declared.event.Event.TheVariants.{FolderMade, FolderGone, SubjectMade}
use Rattle.reg_terms.specs.declared.event.Event.TheVariants.{GroupMade, GroupGone, DefinitionMade}
use Rattle.reg_terms.specs.declared.event.Event.TheVariants.{DefinitionGone, AttributeMade}
use Rattle.reg_terms.specs.declared.event.Event.TheVariants.{AttributeGone}
use Rattle.reg_terms.specs.declared.kinds.Object.{Object}
use Rattle.reg_terms.specs.declared.kinds.Object.TheVariants.{Folder, Group, Def, Attr, Subject}

-- the object that an event makes
abbrev pub object_made : Event → Option Object
object_made (FolderMade row) = Some (Folder row.id)
object_made (SubjectMade row) = Some (Subject row.id)
object_made (GroupMade row) = Some (Group row.id)
object_made (DefinitionMade row) = Some (Def row.id)
object_made (AttributeMade row) = Some (Attr row.id)
object_made _ = None

-- the object that goes by an event
abbrev pub object_gone : Event → Option Object
object_gone (FolderGone d) = Some (Folder d)
object_gone (GroupGone g) = Some (Group g)
object_gone (DefinitionGone a) = Some (Def a)
object_gone (AttributeGone a) = Some (Attr a)
object_gone _ = None

-- whether an object goes by an event
abbrev pub is_deletion : Event → Bool
is_deletion e = is_some (object_gone e)

-- the objects that some events make, and those that go by them
abbrev pub made_by : List Event → List Object
made_by events = filter_map object_made events

abbrev pub gone_by : List Event → List Object
gone_by events = filter_map object_gone events

-- whether an object is one of these
abbrev pub among : Object → List Object → Bool
among o objects = list_any (λ x. same_object x o) objects
