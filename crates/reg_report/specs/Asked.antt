-- What a report is about, by its words: first a text that is no name or no moment is refused, then
-- what doesn't stand, then what is of another kind, then a moment later than the clock. A report as
-- of a moment is refused for that moment first.
use Rattle.std.specs.Prelude.{ℕ, List, Option, Some, None, Result, Ok, Err, codes, option_map}
use Rattle.std.specs.Prelude.{⊤, ok_or, if◌then◌else◌, nat_lt}
use Rattle.reg_base.specs.Names.{is_name}
use Rattle.reg_base.specs.Entities.{entity_of}
use Rattle.reg_base.specs.MomentText.{moment_of}
use Rattle.reg_base.specs.declared.entity.Entity.{Entity}
use Rattle.reg_base.specs.declared.entity.Entity.TheVariants as entity
use Rattle.reg_terms.specs.declared.refusal.Refusal.{Refusal}
use Rattle.reg_terms.specs.declared.refusal.Refusal.TheVariants as refusal
use Rattle.reg_facts.specs.Attributes.{attribute_id}
use Rattle.reg_facts.specs.Edits.{subject_id}
use Rattle.reg_facts.specs.Lists.{Lists}
use Rattle.reg_facts.specs.Naming.{group_id}
use Rattle.reg_access.specs.Grounds.{is_resource}
use Rattle.reg_access.specs.Sayings.{is_action}

-- a step and what follows it, up to the first refusal
infixl 10 ◌>>=◌
abbrev pub ◌>>=◌ : {A B : Type 0} → Result A Refusal → (A → Result B Refusal) → Result B Refusal
(Ok x) >>= f = f x
(Err e) >>= f = Err e

-- ---- texts

-- the entity that the subject's text is
abbrev pub subject_in : List ℕ → Result Entity Refusal
subject_in text = ok_or (entity_of text) (refusal.BadName (codes "subject"))

-- the text of a field has to be a name
abbrev pub check_name : List ℕ → List ℕ → Result ⊤ Refusal
check_name field text = if is_name text then Ok tt else Err (refusal.BadName field)

-- the text has to be an action
abbrev pub check_action : List ℕ → Result ⊤ Refusal
check_action text = if is_action text then Ok tt else Err (refusal.BadName (codes "action"))

-- the moment that a text is
abbrev pub moment_at : List ℕ → Result ℕ Refusal
moment_at text = ok_or (moment_of text) (refusal.BadMoment (codes "at"))

-- and where one is given
abbrev pub moment_in : Option (List ℕ) → Result (Option ℕ) Refusal
moment_in None = Ok None
moment_in (Some text) = do
  moment ← moment_at text
  Ok (Some moment)

-- ---- what stands

-- the person that an entity is, if it is a person, who has to stand
abbrev pub person_found : Entity → Lists → Result (Option ℕ) Refusal
person_found (entity.Person text) f =
    ok_or (option_map Some (subject_id text f.subjects)) (refusal.NotFound text)
person_found (entity.Group name) f = Ok None
person_found entity.System f = Ok None
person_found entity.Everyone f = Ok None

-- the attribute of a name
abbrev pub attribute_found : List ℕ → Lists → Result ℕ Refusal
attribute_found name f = ok_or (attribute_id name f) (refusal.NotFound name)

-- the group of a name
abbrev pub group_found : List ℕ → Lists → Result ℕ Refusal
group_found name f = ok_or (group_id name f) (refusal.NotFound name)

-- ---- kinds, and the clock

-- a person, and no other entity
abbrev pub person_in : Option ℕ → Result ℕ Refusal
person_in found = ok_or found (refusal.WrongKind (codes "subject"))

-- an attribute that is a resource
abbrev pub resource_in : ℕ → Lists → Result ℕ Refusal
resource_in attribute f =
    if is_resource attribute f then Ok attribute else Err (refusal.WrongKind (codes "resource"))

-- a moment that may be asked of: one that isn't later than the clock
abbrev pub not_later : ℕ → ℕ → Result ℕ Refusal
not_later clock asked = if nat_lt clock asked then Err (refusal.Future asked clock) else Ok asked

-- the moment asked of, which is the clock's where none is given
abbrev pub in_time : ℕ → Option ℕ → Result ℕ Refusal
in_time clock None = Ok clock
in_time clock (Some asked) = not_later clock asked

-- the moment that a report is made as of, by its text
abbrev pub moment_asked : List ℕ → ℕ → Result ℕ Refusal
moment_asked text clock = do
  asked ← moment_at text
  not_later clock asked

-- ---- reports

-- the person and the resource that `permit` is about
abbrev pub permit_asked : List ℕ → List ℕ → List ℕ → Lists → Result (ℕ × ℕ) Refusal
permit_asked subject resource action f = do
  entity ← subject_in subject
  _ ← check_name (codes "resource") resource
  _ ← check_action action
  found ← person_found entity f
  attribute ← attribute_found resource f
  person ← person_in found
  _ ← resource_in attribute f
  Ok (person, attribute)

-- the resource that `permitted` is about
abbrev pub permitted_asked : List ℕ → List ℕ → Lists → Result ℕ Refusal
permitted_asked resource action f = do
  _ ← check_name (codes "resource") resource
  _ ← check_action action
  attribute ← attribute_found resource f
  resource_in attribute f

-- the group and the moment that `attested` is about
abbrev pub attested_asked : List ℕ → Option (List ℕ) → ℕ → Lists → Result (ℕ × ℕ) Refusal
attested_asked group at clock f = do
  _ ← check_name (codes "group") group
  moment ← moment_in at
  id ← group_found group f
  t ← in_time clock moment
  Ok (id, t)

-- the person and the group that `why` is about
abbrev pub why_asked : List ℕ → List ℕ → Lists → Result (ℕ × ℕ) Refusal
why_asked subject group f = do
  entity ← subject_in subject
  _ ← check_name (codes "group") group
  found ← person_found entity f
  id ← group_found group f
  person ← person_in found
  Ok (person, id)

-- the group that `attestation` is about
abbrev pub attestation_asked : List ℕ → Lists → Result ℕ Refusal
attestation_asked group f = do
  _ ← check_name (codes "group") group
  group_found group f
