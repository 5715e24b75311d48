-- Lines as they are stored, and the moments of runs of them.
use Rattle.std.specs.Prelude.{ℕ, zero, suc, List, [], ◌∷◌, Option, None, Some, ◌≤◌, nat_le}
use Rattle.std.specs.Prelude.{if◌then◌else◌}
use Rattle.reg_log.specs.declared.entries.Line.{Line}
use Rattle.reg_log.specs.declared.stored.StoredLine.{StoredLine}
use Rattle.reg_log.specs.declared.stored.Stretch.{Stretch}
use Rattle.reg_log.specs.declared.stored.ObjectKind.{ObjectKind}
use Rattle.reg_log.specs.declared.stored.ObjectKind.TheVariants as kind
use Rattle.reg_log.specs.declared.stored.EntityKind.{EntityKind}
use Rattle.reg_log.specs.declared.stored.EntityKind.TheVariants as whom
use Rattle.reg_terms.specs.declared.kinds.Object.{Object}
use Rattle.reg_terms.specs.declared.kinds.Object.TheVariants as object
use Rattle.reg_terms.specs.declared.kinds.Holder.{Holder}
use Rattle.reg_terms.specs.declared.kinds.Holder.TheVariants as holder

-- the object of a kind and a number
abbrev pub object_of : ObjectKind → ℕ → Option Object
object_of kind.Nothing n = None
object_of kind.Folder n = Some (object.Folder n)
object_of kind.Group n = Some (object.Group n)
object_of kind.Def n = Some (object.Def n)
object_of kind.Attr n = Some (object.Attr n)
object_of kind.Subject n = Some (object.Subject n)

-- the entity of a kind and a number
abbrev pub entity_of : EntityKind → ℕ → Option Holder
entity_of whom.Nobody n = None
entity_of whom.Everyone n = Some holder.Everyone
entity_of whom.Person n = Some (holder.Person n)
entity_of whom.Group n = Some (holder.Group n)

-- a stored line, with its moment
abbrev pub line_of : ℕ → StoredLine → Line
line_of at stored = record {
  at = at;
  kind = stored.kind;
  object = object_of stored.object_kind stored.object_id;
  entity = entity_of stored.entity_kind stored.entity_id;
  number = stored.number;
}

-- the moment of a place, which is that of the last stretch that begins there or before, and an
-- earlier moment where there is none
abbrev pub moment_at : ℕ → ℕ → List Stretch → ℕ
moment_at before place [] = before
moment_at before place (stretch ∷ later) =
    moment_at (if nat_le stretch.first place then stretch.at else before) place later

-- the lines that are stored from a place on
abbrev pub lines_from : ℕ → List Stretch → List StoredLine → List Line
lines_from place stretches [] = []
lines_from place stretches (stored ∷ later) =
    line_of (moment_at 0 place stretches) stored ∷ lines_from (suc place) stretches later

-- stretches begin in turn, at places from a first to before an end
abbrev pub Begin : ℕ → List Stretch → ℕ → Type 0
Begin low [] end = low ≤ end
Begin low (stretch ∷ later) end = (low ≤ stretch.first) × Begin (suc stretch.first) later end

-- stretches begin in turn
abbrev pub AreInOrder : List Stretch → Type 0
AreInOrder stretches = (end : ℕ) × Begin 0 stretches end

-- how many stretches in turn begin at a place or before it
abbrev pub begun : ℕ → List Stretch → ℕ
begun place [] = 0
begun place (stretch ∷ later) = if nat_le stretch.first place then suc (begun place later) else 0

-- the moment once some stretches have begun
abbrev pub moment_begun : ℕ → ℕ → List Stretch → ℕ
moment_begun before zero stretches = before
moment_begun before (suc n) [] = before
moment_begun before (suc n) (stretch ∷ later) = moment_begun stretch.at n later
