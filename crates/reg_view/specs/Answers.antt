-- The answers over the facts, as they are computed: each is what `show` tells of the view.
use Rattle.std.specs.Prelude.{ℕ, ◌&&◌, List, [], Bool, false, Option, None, Some, Result, Ok, Err}
use Rattle.std.specs.Prelude.{map, filter, codes, length, if◌then◌else◌}
use Rattle.reg_base.specs.Entities.{entity_of}
use Rattle.reg_base.specs.declared.entity.Entity.{Entity}
use Rattle.reg_base.specs.declared.entity.Entity.TheVariants as entity
use Rattle.reg_base.specs.declared.privilege.Privilege.{Privilege}
use Rattle.reg_base.specs.declared.privilege.Privilege.TheVariants as privilege
use Rattle.reg_terms.specs.declared.changes_shown.SpanShown.{SpanShown}
use Rattle.reg_terms.specs.declared.shown.AssignShown.{AssignShown}
use Rattle.reg_terms.specs.declared.kinds.Member.TheVariants.{Person}
use Rattle.reg_terms.specs.declared.kinds.Object.{Object}
use Rattle.reg_terms.specs.declared.kinds.Object.TheVariants as object
use Rattle.reg_terms.specs.declared.refusal.Refusal.{Refusal}
use Rattle.reg_terms.specs.declared.refusal.Refusal.TheVariants.{NotFound, WrongKind}
use Rattle.reg_terms.specs.declared.rows.GroupRow.{GroupRow}
use Rattle.reg_terms.specs.declared.query.Query.{Query}
use Rattle.reg_terms.specs.declared.query.Query.TheVariants as query
use Rattle.reg_terms.specs.declared.query.Answer.{Answer}
use Rattle.reg_terms.specs.declared.query.Answer.TheVariants as answer
use Rattle.reg_log.specs.Numbering.{entries_after}
use Rattle.reg_facts.specs.Attributes.{assigns_on}
use Rattle.reg_facts.specs.Children.{child_names}
use Rattle.reg_facts.specs.Consumers.{consumer_place}
use Rattle.reg_facts.specs.Edits.{subject_id}
use Rattle.reg_facts.specs.Lists.{Lists}
use Rattle.reg_facts.specs.Members.{texts_where}
use Rattle.reg_facts.specs.Naming.{folder_id, group_id, name_of, resolve}
use Rattle.reg_facts.specs.RowOrder.{rows_of}
use Rattle.reg_facts.specs.Rows.{attribute_row, group_row}
use Rattle.reg_facts.specs.Sound.{has_group}
use Rattle.reg_effect.specs.declared.live.Live.{Live}
use Rattle.reg_effect.specs.Member.{member}
use Rattle.reg_priv.specs.declared.who.Who.{Who}
use Rattle.reg_priv.specs.Grants.{Grant}
use Rattle.reg_priv.specs.Holders.{holders}
use Rattle.reg_priv.specs.May.{is_root, may, privileges_of, visible, who_of}
use Rattle.reg_view.specs.Past.{Past, entry_shown, gone_id, history_of, span_shown}
use Rattle.reg_view.specs.Show.{◌>>=◌, denied, found_or, in_time, root_denied, is_caller}
use Rattle.reg_view.specs.Show.{is_entity_text}
use Rattle.reg_view.specs.Texts.{row_shown, composite_shown, consumer_shown, grant_shown}
use Rattle.reg_view.specs.Texts.{gone_shown, definition_name, job_shown, member_text, rule_shown}
use Rattle.reg_view.specs.View.{assigns_shown, is_admin, is_readable, owned, powers_at}

-- ---- groups and folders

-- the display text of the group of this id
abbrev pub display_of : ℕ → List GroupRow → List ℕ
display_of id rows = elim (group_row id rows) [ None ↦ [] | Some row ↦ row.display ]

-- the group of this name, if the caller sees it
abbrev pub group_seen : Live → Lists → Who → List ℕ → Result ℕ Refusal
group_seen L f c group =
    elim (group_id group f) [
      | None ↦ Err (NotFound group)
      | Some id ↦ if visible L f c
          (object.Group id) then Ok id else Err (NotFound group)
    ]

-- the group of this name, if the caller may read it
abbrev pub group_read : Live → Lists → Who → List ℕ → Result ℕ Refusal
group_read L f c group = do
  id ← group_seen L f c group
  if is_readable L f c (object.Group id) then Ok id else Err (denied group privilege.Read)

-- the display text of the group of this name
abbrev pub group_of : Live → Lists → Who → List ℕ → Result Answer Refusal
group_of L f c group = do
  id ← group_seen L f c group
  Ok (answer.GroupGet (display_of id f.groups) group)

-- the group that is gone and had this name last, which root alone finds
abbrev pub gone_found : Past → Live → Lists → Who → List ℕ → Option ℕ
gone_found p L f c group = if is_root L f c then gone_id p group else None

-- the group of this name, if one stands, and else the one that is gone
abbrev pub past_group : Past → Live → Lists → Who → List ℕ → Option ℕ → Result ℕ Refusal
past_group p L f c group (Some _) = group_read L f c group
past_group p L f c group None = found_or (gone_found p L f c group) (NotFound group)

-- the group of this name whose past the caller may read
abbrev pub group_past : Past → Live → Lists → Who → List ℕ → Result ℕ Refusal
group_past p L f c group = past_group p L f c group (group_id group f)

-- the members of a group, now or at a moment
abbrev pub members_at : Past → Live → Lists → ℕ → ℕ → Option ℕ → Result Answer Refusal
members_at p L f now id None = Ok (answer.Members (texts_where (member L id) f.subjects))
members_at p L f now id (Some at) = do
  _ ← in_time now (Some at)
  Ok (answer.Members (texts_where (p.was at id) f.subjects))

-- the members of the group of this name, now or at a moment
abbrev pub members_of : Past → Live → Lists → ℕ → Who → List ℕ → Option ℕ → Result Answer Refusal
members_of p L f now c group at = do
  id ← group_past p L f c group
  members_at p L f now id at

-- an interval of a person of this id, from one moment to another
abbrev pub row_span : Lists → ℕ × ℕ × Option ℕ → SpanShown
row_span f row = span_shown (member_text (Person row.0) f) (row.1, row.2)

-- when each person was a member of the group of this name
abbrev pub history_told : Past → Live → Lists → Who → List ℕ → Result Answer Refusal
history_told p L f c group = do
  id ← group_past p L f c group
  Ok (answer.History (history_of p id f.subjects))

-- the immediate memberships and the factors of the group of this name
abbrev pub rows_of_group : Live → Lists → Who → List ℕ → Result Answer Refusal
rows_of_group L f c group = do
  id ← group_read L f c group
  Ok (answer.Rows (composite_shown id f) (map (row_shown f) (rows_of id f.rows)))

-- whether a name's object is there, and the caller sees it
abbrev pub is_seen : Live → Lists → Who → Option Object → Bool
is_seen L f c None = false
is_seen L f c (Some o) = visible L f c o

-- the names of objects that the caller sees
abbrev pub seen_names : Live → Lists → Who → List (List ℕ) → List (List ℕ)
seen_names L f c names = filter (λ (text : List ℕ). is_seen L f c (resolve text f)) names

-- what the caller sees of what stands directly in a folder; it sees all folders
abbrev pub listing : Live → Lists → Who → ℕ → List ℕ → Answer
listing L f c d home = answer.FolderList
    (seen_names L f c (child_names d home f).attributes)
    (seen_names L f c (child_names d home f).definitions)
    (child_names d home f).folders
    (seen_names L f c (child_names d home f).groups)

-- what the caller sees of what stands directly in the folder of this name
abbrev pub listing_of : Live → Lists → Who → List ℕ → Result Answer Refusal
listing_of L f c folder =
    elim (folder_id folder f)
    [ None ↦ Err (NotFound folder) | Some d ↦ Ok (listing L f c d folder) ]

-- ---- entities

-- the object that an entity is, if it stands and the caller sees it; an entity of the registry
-- itself is none
abbrev pub entity_found : Live → Lists → Who → Entity → Result (Option Object) Refusal
entity_found L f c (entity.Person text) =
    elim (subject_id text f.subjects)
    [ None ↦ Err (NotFound text) | Some s ↦ Ok (Some (object.Subject s)) ]
entity_found L f c (entity.Group name) = do
  g ← group_seen L f c name
  Ok (Some (object.Group g))
entity_found L f c entity.System = Ok None
entity_found L f c entity.Everyone = Ok None

-- the names of those of these groups that stand and that the caller may read
abbrev pub readable_names : Live → Lists → Who → List ℕ → List (List ℕ)
readable_names L f c ids =
    map (λ (g : ℕ). name_of (object.Group g) f) (filter (λ (g : ℕ). has_group g f.groups
    && is_readable L f c (object.Group g)) ids)

-- of the groups that have a person, by a test, those that stand and that the caller may read
abbrev pub groups_where : (ℕ → Bool) → Live → Lists → Who → Answer
groups_where has L f c =
    answer.Groups (map (λ (row : GroupRow). name_of (object.Group row.id) f)
    (filter (λ (row : GroupRow). has row.id && is_readable L f c (object.Group row.id)) f.groups))

-- the groups of a person, now or at a moment
abbrev pub groups_at : Past → Live → Lists → ℕ → Who → ℕ → Option ℕ → Result Answer Refusal
groups_at p L f now c s None = Ok (groups_where (λ g. member L g s) L f c)
groups_at p L f now c s (Some at) = do
  _ ← in_time now (Some at)
  Ok (groups_where (λ g. p.was at g s) L f c)

-- the groups of which a person of this text is a member, now or at a moment
abbrev pub groups_of_person : Past → Live → Lists → ℕ → Who → List ℕ → Option ℕ
    → Result Answer Refusal
groups_of_person p L f now c text at =
    elim (subject_id text f.subjects)
    [ None ↦ Err (NotFound text) | Some s ↦ groups_at p L f now c s at ]

-- a field names a thing of a kind that it can't be: a moment that is later than now is refused
-- first
abbrev pub unfit : List ℕ → ℕ → Option ℕ → Result Answer Refusal
unfit field now at = do
  _ ← in_time now at
  Err (WrongKind field)

-- the groups of which this entity is a member, now or at a moment
abbrev pub groups_of : Past → Live → Lists → ℕ → Who → Entity → Option ℕ → Result Answer Refusal
groups_of p L f now c (entity.Person text) at = groups_of_person p L f now c text at
groups_of p L f now c (entity.Group name) at = do
  _ ← group_seen L f c name
  unfit (codes "subject") now at
groups_of p L f now c entity.System at = unfit (codes "subject") now at
groups_of p L f now c entity.Everyone at = unfit (codes "subject") now at

-- ---- objects

-- the object of this name, if the caller sees it
abbrev pub name_found : Live → Lists → Who → List ℕ → Option Object → Result (Option Object) Refusal
name_found L f c text None = Err (NotFound text)
name_found L f c text (Some o) = if visible L f c o then Ok (Some o) else Err (NotFound text)

-- the object that an entity's text names
abbrev pub entity_object : Live → Lists → Who → List ℕ → Option Entity
    → Result (Option Object) Refusal
entity_object L f c text None = Err (NotFound text)
entity_object L f c text (Some e) = entity_found L f c e

-- the object that a text names, if the caller sees it: an entity, or an object by its name
abbrev pub object_found : Live → Lists → Who → List ℕ → Result (Option Object) Refusal
object_found L f c text =
    if is_entity_text text then entity_object L f c text (entity_of text)
    else name_found L f c text (resolve text f)

-- the name of the definition of an attribute
abbrev pub definition_of : ℕ → Lists → List ℕ
definition_of a f =
    elim (attribute_row a f.attributes) [ None ↦ codes ":" | Some row ↦ definition_name f row ]

-- what is answered to who isn't an object's admin
abbrev pub not_admin : Lists → Object → Refusal
not_admin f (object.Folder d) = denied (name_of (object.Folder d) f) privilege.StemAdmin
not_admin f (object.Group g) = denied (name_of (object.Group g) f) privilege.Admin
not_admin f (object.Def a) = denied (name_of (object.Def a) f) privilege.AttrAdmin
not_admin f (object.Attr a) = denied (definition_of a f) privilege.AttrAdmin
not_admin f (object.Subject s) = root_denied

-- the grants on an object, now or at a moment
abbrev pub grants_at : Past → Lists → Object → Option ℕ → List Grant
grants_at p f o None = holders o f
grants_at p f o (Some at) = holders o (p.facts at)

-- the grants on an object, as they are shown
abbrev pub all_grants : Past → Lists → ℕ → Object → Option ℕ → Result Answer Refusal
all_grants p f now o at = do
  _ ← in_time now at
  Ok (answer.Grants (map (grant_shown p f) (grants_at p f o at)))

-- what the admin of an object is told of its grants; none is written on an attribute or a subject
abbrev pub grants_told : Past → Lists → ℕ → Object → Option ℕ → Result Answer Refusal
grants_told p f now (object.Folder d) at = all_grants p f now (object.Folder d) at
grants_told p f now (object.Group g) at = all_grants p f now (object.Group g) at
grants_told p f now (object.Def a) at = all_grants p f now (object.Def a) at
grants_told p f now (object.Attr a) at = unfit (codes "object") now at
grants_told p f now (object.Subject s) at = unfit (codes "object") now at

-- the grants on an object; an entity of the registry itself has none
abbrev pub grants_on : Past → Live → Lists → ℕ → Who → Option Object → Option ℕ
    → Result Answer Refusal
grants_on p L f now c None at = unfit (codes "object") now at
grants_on p L f now c (Some o) at =
    if is_admin L f c o then grants_told p f now o at else Err (not_admin f o)

-- the grants on what this text names, now or at a moment
abbrev pub grants_of : Past → Live → Lists → ℕ → Who → List ℕ → Option ℕ → Result Answer Refusal
grants_of p L f now c object at = do
  o ← object_found L f c object
  grants_on p L f now c o at

-- ---- what someone may do

-- what someone may do with an object, now or at a moment
abbrev pub privileges_at : Past → Live → Lists → Who → Object → Option ℕ → List Privilege
privileges_at p L f who o None = privileges_of L f who o
privileges_at p L f who o (Some at) = powers_at p f at who o

-- and so it is told
abbrev pub powers_of : Past → Live → Lists → ℕ → Who → Object → Option ℕ → Result Answer Refusal
powers_of p L f now who o at = do
  _ ← in_time now at
  Ok (answer.May (privileges_at p L f who o at))

-- what someone may do with an object, if it is one that may do something
abbrev pub powers_told : Past → Live → Lists → ℕ → Option Who → Object → Option ℕ
    → Result Answer Refusal
powers_told p L f now None o at = unfit (codes "entity") now at
powers_told p L f now (Some who) o at = powers_of p L f now who o at

-- what the caller itself may do with an object
abbrev pub own_told : Past → Live → Lists → ℕ → Who → Option Object → Option ℕ
    → Result Answer Refusal
own_told p L f now c None at = unfit (codes "object") now at
own_told p L f now c (Some o) at = powers_of p L f now c o at

-- what another may do with an object
abbrev pub other_told : Past → Live → Lists → ℕ → Who → Option Object → Entity → Option ℕ
    → Result Answer Refusal
other_told p L f now c None e at = unfit (codes "object") now at
other_told p L f now c (Some o) e at =
    if is_admin L f c o then powers_told p L f now (who_of e f) o at else Err (not_admin f o)

-- what an entity may do with what this text names, now or at a moment
abbrev pub may_of : Past → Live → Lists → ℕ → List ℕ → Who → List ℕ → Entity → Option ℕ
    → Result Answer Refusal
may_of p L f now by c object entity at = do
  o ← object_found L f c object
  _ ← entity_found L f c entity
  if is_caller by entity then own_told p L f now c o at else other_told p L f now c o entity at

-- ---- attributes

-- the attributes of an owner, now or at a moment, of those that the caller may read
abbrev pub attributes_at : Past → Live → Lists → Who → Object → Option ℕ → List AssignShown
attributes_at p L f c o None = assigns_shown p L f c (assigns_on o f.assigns)
attributes_at p L f c o (Some at) = owned p L f c at o

-- and so they are told
abbrev pub attributes_told : Past → Live → Lists → ℕ → Who → Object → Option ℕ
    → Result Answer Refusal
attributes_told p L f now c o at = do
  _ ← in_time now at
  Ok (answer.Attributes (attributes_at p L f c o at))

-- the attributes of a folder or a group, if the caller may read them
abbrev pub owner_told : Past → Live → Lists → ℕ → Who → Object → Privilege → Option ℕ
    → Result Answer Refusal
owner_told p L f now c o wanted at =
    if may L f c o wanted then attributes_told p L f now c o at
    else Err (denied (name_of o f) wanted)

-- the attributes of an object that this text names: of a folder or a group by its name, or of a
-- person
abbrev pub attributes_of_object : Past → Live → Lists → ℕ → Who → List ℕ → Object → Option ℕ
    → Result Answer Refusal
attributes_of_object p L f now c text (object.Folder d) at =
    owner_told p L f now c (object.Folder d) privilege.StemAttrRead at
attributes_of_object p L f now c text (object.Group g) at =
    if is_entity_text text then unfit (codes "object") now at
    else owner_told p L f now c (object.Group g) privilege.GroupAttrRead at
attributes_of_object p L f now c text (object.Def a) at = unfit (codes "object") now at
attributes_of_object p L f now c text (object.Attr a) at = unfit (codes "object") now at
attributes_of_object p L f now c text (object.Subject s) at =
    attributes_told p L f now c (object.Subject s) at

-- and where it may be none
abbrev pub attributes_on : Past → Live → Lists → ℕ → Who → List ℕ → Option Object → Option ℕ
    → Result Answer Refusal
attributes_on p L f now c text None at = unfit (codes "object") now at
attributes_on p L f now c text (Some o) at = attributes_of_object p L f now c text o at

-- the attributes of what this text names, now or at a moment
abbrev pub attributes_of : Past → Live → Lists → ℕ → Who → List ℕ → Option ℕ → Result Answer Refusal
attributes_of p L f now c text at = do
  o ← object_found L f c text
  attributes_on p L f now c text o at

-- ---- the change log

-- the entries after a place, at most some, as they are shown
abbrev pub entries_told : Past → ℕ → ℕ → Answer
entries_told p place max =
    answer.Log (map (entry_shown p) (entries_after place max p.lines)) (length p.lines) place

-- the place of the consumer of this name, which root alone sees
abbrev pub place_seen : Live → Lists → Who → List ℕ → Option ℕ
place_seen L f c consumer = if is_root L f c then consumer_place consumer f.consumers else None

-- the entries after the place of the consumer of this name
abbrev pub log_of : Past → Live → Lists → Who → List ℕ → ℕ → Result Answer Refusal
log_of p L f c consumer max = do
  place ← found_or (place_seen L f c consumer) (NotFound consumer)
  Ok (entries_told p place max)

-- ---- what root is told

-- the consumers, the groups that are gone, the loader jobs and the rules
abbrev pub admin_told : Past → Lists → Answer
admin_told p f =
    answer.Admin (map consumer_shown f.consumers) (map (gone_shown p) p.gone_by_id)
    (map (job_shown f) f.jobs) (map (rule_shown p f) f.rules)

-- and root alone is told of them
abbrev pub admin_of : Past → Live → Lists → Who → Result Answer Refusal
admin_of p L f c = if is_root L f c then Ok (admin_told p f) else Err root_denied

-- ---- queries

-- what is answered now to a caller of this text that stands
abbrev pub answer_of : Past → Live → Lists → ℕ → List ℕ → Who → Query → Result Answer Refusal
answer_of p L f now by c (query.GroupGet group) = group_of L f c group
answer_of p L f now by c (query.FolderList folder) = listing_of L f c folder
answer_of p L f now by c (query.Members group at) = members_of p L f now c group at
answer_of p L f now by c (query.Rows group) = rows_of_group L f c group
answer_of p L f now by c (query.Groups subject at) = groups_of p L f now c subject at
answer_of p L f now by c (query.Grants object at) = grants_of p L f now c object at
answer_of p L f now by c (query.May object entity at) = may_of p L f now by c object entity at
answer_of p L f now by c (query.Attributes object at) = attributes_of p L f now c object at
answer_of p L f now by c (query.History group) = history_told p L f c group
answer_of p L f now by c (query.Log consumer max) = log_of p L f c consumer max
answer_of p L f now by c query.Admin = admin_of p L f c
