-- When objects were made and went, and the names that they had last.
use Rattle.std.specs.Prelude.{ℕ, List, [], ◌∷◌, Option, Some, None, map, filter_map, flat_map}
use Rattle.std.specs.Prelude.{option_map, if◌then◌else◌}
use Rattle.std.specs.Str.{bytes_eq}
use Rattle.reg_terms.specs.Kinds.{same_object, as_group}
use Rattle.reg_terms.specs.declared.event.Event.{Event}
use Rattle.reg_terms.specs.declared.kinds.Object.{Object}
use Rattle.reg_terms.specs.declared.kinds.Object.TheVariants.{Folder}
use Rattle.reg_facts.specs.Lists.{Lists, root}
use Rattle.reg_facts.specs.Naming.{name_of}
use Rattle.reg_audit.specs.Objects.{made_by, gone_by, among}
use Rattle.reg_audit.specs.Steps.{Step}
use Rattle.reg_audit.specs.declared.gone.Gone.{Gone}

-- ---- lives: when an object was made and, if it went, when

-- an object's life once it was made at a moment, if it is one of those made
abbrev pub begun : ℕ → List Object → Object → Option (ℕ × Option ℕ) → Option (ℕ × Option ℕ)
begun at made o life = if among o made then Some (at, None) else life

-- an object's life once it went at a moment, if it is one of those that went
abbrev pub ended : ℕ → List Object → Object → Option (ℕ × Option ℕ) → Option (ℕ × Option ℕ)
ended at gone o life = if among o gone then option_map (λ l. (l.0, Some at)) life else life

-- an object's life after a step
abbrev pub life_after : Step → Object → Option (ℕ × Option ℕ) → Option (ℕ × Option ℕ)
life_after step o life =
    ended step.at (gone_by step.events) o (begun step.at (made_by step.events) o life)

-- an object's life after some steps, by what it was before them
abbrev pub life_from : Option (ℕ × Option ℕ) → Object → List Step → Option (ℕ × Option ℕ)
life_from life o [] = life
life_from life o (step ∷ steps) = life_from (life_after step o life) o steps

-- before all steps there is the root folder, which was made at 0
abbrev pub first_life : Object → Option (ℕ × Option ℕ)
first_life o = if same_object (Folder root) o then Some (0, None) else None

-- when an object was made and when it went: none if it was never made
unfoldable pub life_of : Object → List Step → Option (ℕ × Option ℕ)
life_of o steps = life_from (first_life o) o steps

-- ---- what is gone

-- an object that goes, with the name that it has in the facts before
abbrev pub gone_from : Lists → Object → Gone
gone_from before o = record { object = o; name = name_of o before }

-- the objects that go by some events, each with its name before them
abbrev pub leaving : Lists → List Event → List Gone
leaving before events = map (gone_from before) (gone_by events)

-- all that went, in order
abbrev pub all_gone : List Step → List Gone
all_gone steps = flat_map (λ (step : Step). leaving step.before step.events) steps

-- the groups among what is gone
abbrev pub groups_of : List Gone → List ℕ
groups_of gone = filter_map (λ (g : Gone). as_group (Some g.object)) gone

-- the groups that went, in order
unfoldable pub gone_of : List Step → List ℕ
gone_of steps = groups_of (all_gone steps)

-- the name of an object by the last of these that is it, or else the name that was known before
abbrev pub last_name : Object → Option (List ℕ) → List Gone → Option (List ℕ)
last_name o known [] = known
last_name o known (g ∷ gone) =
    last_name o (if same_object g.object o then Some g.name else known) gone

-- the name that an object had when it went, if it is gone
unfoldable pub gone_name : Object → List Step → Option (List ℕ)
gone_name o steps = last_name o None (all_gone steps)

-- what has a name, if this is a group of the name, or else the group that was known before
abbrev pub named_or : List ℕ → Option ℕ → Gone → Option ℕ
named_or name known g =
    if bytes_eq g.name name then elim
    (as_group (Some g.object)) [ None ↦ known | Some group ↦ Some group ] else known

-- the last group of these that has the name, or else the group that was known before
abbrev pub last_named : List ℕ → Option ℕ → List Gone → Option ℕ
last_named name known [] = known
last_named name known (g ∷ gone) = last_named name (named_or name known g) gone

-- the group of this last name that went, the last one if several did
unfoldable pub gone_named : List ℕ → List Step → Option ℕ
gone_named name steps = last_named name None (all_gone steps)
