-- Which objects stand, and that they stand exactly as long as they live by the steps of a history,
-- whose facts are sound at each moment.
use Rattle.std.specs.Prelude.{◌≡◌, ◌≤◌, ⊤, ℕ, List, Bool, false, Option, None, Some, nat_le}
use Rattle.reg_terms.specs.declared.command.Stamped.{Stamped}
use Rattle.reg_terms.specs.declared.kinds.Object.{Object}
use Rattle.reg_terms.specs.declared.kinds.Object.TheVariants.{Folder, Group, Def, Attr, Subject}
use Rattle.reg_terms.specs.declared.rows.Made.{Made}
use Rattle.reg_facts.specs.Lists.{Lists}
use Rattle.reg_facts.specs.Sound.{has_subject, is_named, IsSound}
use Rattle.reg_audit.specs.Lives.{life_of}
use Rattle.reg_pit.specs.Spans.{has_moment}
use Rattle.reg_machine.specs.History.{facts}
use Rattle.reg_machine.specs.Past.{steps}

-- whether an object stands: a subject that was added, the root, and what has a place
abbrev pub stands : Object → Lists → Bool
stands (Subject s) f = has_subject s f.subjects
stands o f = is_named o f

-- whether an object of this life stood at a moment: it was made by then, and hadn't gone
abbrev pub lives_at : ℕ → Option (ℕ × Option ℕ) → Bool
lives_at t None = false
lives_at t (Some span) = has_moment t span

-- whether an object was made, by how many of its kind were
abbrev pub was_made : Made → Object → Bool
was_made made (Folder d) = nat_le d made.folders
was_made made (Group g) = nat_le g made.groups
was_made made (Def a) = nat_le a made.definitions
was_made made (Attr a) = nat_le a made.attributes
was_made made (Subject s) = nat_le s made.subjects

-- nothing of a life is later than a moment
abbrev pub LifeBy : ℕ → Option (ℕ × Option ℕ) → Type 0
LifeBy at None = ⊤
LifeBy at (Some (made, None)) = made ≤ at
LifeBy at (Some (made, Some gone)) = (made ≤ at) × (gone ≤ at)

-- an object stands at a moment exactly where it lives then, and has no life before it was made
pub record IsLived (at : ℕ) (f : Lists) (o : Object) (life : Option (ℕ × Option ℕ)) : Type 0 where
  pub now : stands o f ≡ lives_at at life
  pub new : was_made f.made o ≡ false → life ≡ None
  pub by : LifeBy at life

-- at each moment up to the clock the facts were sound, and an object stood exactly where it lives
-- by the steps
pub record AreStood (history : List Stamped) (clock : ℕ) : Type 0 where
  pub sound : (t : ℕ) → t ≤ clock → IsSound (facts history t)
  pub lived : (o : Object) → IsLived clock (facts history clock) o (life_of o (steps history clock))
  pub stood : (o : Object) (t : ℕ) → t ≤ clock
      → stands o (facts history t) ≡ lives_at t (life_of o (steps history clock))
