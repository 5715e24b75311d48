-- Which objects' grants, direct and inherited, an event may change.
use Rattle.std.specs.Prelude.{◌≡◌, ◌||◌, ℕ, zero, suc, List, Bool, true, false, Option, None, Some}
use Rattle.std.specs.List.{list_any}
use Rattle.reg_terms.specs.declared.event.Event.{Event}
use Rattle.reg_terms.specs.declared.event.Event.TheVariants.{FolderMade, FolderMoved, FolderGone}
use Rattle.reg_terms.specs.declared.event.Event.TheVariants.{GroupMade, GroupMoved, GroupGone}
use Rattle.reg_terms.specs.declared.event.Event.TheVariants.{GrantAdded, GrantBegan, GrantRemoved}
use Rattle.reg_terms.specs.declared.event.Event.TheVariants.{InheritAdded, InheritRemoved}
use Rattle.reg_terms.specs.declared.event.Event.TheVariants.{DefinitionMade}
use Rattle.reg_terms.specs.declared.event.Event.TheVariants.{DefinitionGone, AttributeMade}
use Rattle.reg_terms.specs.declared.event.Event.TheVariants.{AttributeGone}
use Rattle.reg_terms.specs.declared.kinds.Object.{Object}
use Rattle.reg_terms.specs.declared.kinds.Object.TheVariants.{Folder, Group, Def, Attr}
use Rattle.reg_terms.specs.declared.kinds.Scope.TheVariants.{Sub}
use Rattle.reg_terms.specs.Kinds.{same_object}
use Rattle.reg_facts.specs.Lists.{Lists}
use Rattle.reg_facts.specs.Naming.{Placed, lies_in}
use Rattle.reg_names.specs.Scopes.{in_scope}
use Rattle.reg_priv.specs.Grants.{grants, reaches}

-- whether an event, at the facts before it, may change the grants on an object: what is made, moved
-- or goes, what gets or loses a grant, or has one that begins, what an inherit that is added or
-- removed reaches, and all below a folder that is moved
abbrev pub touched : Event → Lists → Object → Bool
touched (FolderMade row) f o = same_object (Folder row.id) o
touched (FolderMoved id to) f o = same_object (Folder id) o || in_scope id Sub o f
touched (FolderGone id) f o = same_object (Folder id) o
touched (GroupMade row) f o = same_object (Group row.id) o
touched (GroupMoved id to) f o = same_object (Group id) o
touched (GroupGone id) f o = same_object (Group id) o
touched (DefinitionMade row) f o = same_object (Def row.id) o
touched (DefinitionGone id) f o = same_object (Def id) o
touched (AttributeMade row) f o = same_object (Attr row.id) o
touched (AttributeGone id) f o = same_object (Attr id) o
touched (GrantAdded row) f o = same_object row.object o
touched (GrantBegan row) f o = same_object row.object o
touched (GrantRemoved row) f o = same_object row.object o
touched (InheritAdded row) f o = reaches o f row
touched (InheritRemoved row) f o = reaches o f row
touched _ f o = false

-- whether an object is among some
abbrev pub is_listed : Object → List Object → Bool
is_listed o objects = list_any (λ (other : Object). same_object other o) objects

-- whether a place is below a folder by so many levels at most: in it by one, in a folder in it by
-- two
abbrev pub place_below : ℕ → ℕ → Option Placed → Lists → Bool
place_below zero d place f = false
place_below (suc n) d None f = false
place_below (suc n) d (Some p) f = lies_in n p.folder d f.folders

-- each object listed after was listed before, or passes a test
abbrev pub AddsOnly : (Object → Bool) → List Object → List Object → Type 0
AddsOnly test before after =
    (o : Object) → is_listed o after ≡ true → (is_listed o before || test o) ≡ true

-- all objects on which there are other grants after than before, direct or inherited, are among
-- these
abbrev pub KnowsTouched : Lists → Lists → List Object → Type 0
KnowsTouched before after touched =
    (o : Object) → is_listed o touched ≡ false → grants o after ≡ grants o before
