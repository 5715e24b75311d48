-- What an answer may name: persons, the groups that the caller sees, members and factors of groups
-- that it may read, and holders on objects that it administers. Root alone is told more.
use Rattle.std.specs.Prelude.{◌≡◌, ⊤, ◌&&◌, ◌||◌, ℕ, List, Bool, true, Option, Some, None, map}
use Rattle.std.specs.List.{AllByRecursion, list_any}
use Rattle.std.specs.Str.{bytes_eq}
use Rattle.reg_terms.specs.declared.kinds.Object.{Object}
use Rattle.reg_terms.specs.declared.kinds.Object.TheVariants as object
use Rattle.reg_terms.specs.declared.rows.CompositeRow.{CompositeRow}
use Rattle.reg_terms.specs.declared.rows.GroupRow.{GroupRow}
use Rattle.reg_terms.specs.declared.rows.MemberRow.{MemberRow}
use Rattle.reg_terms.specs.declared.rows.SubjectRow.{SubjectRow}
use Rattle.reg_terms.specs.declared.changes_shown.SpanShown.{SpanShown}
use Rattle.reg_terms.specs.declared.shown.FactorsShown.{FactorsShown}
use Rattle.reg_terms.specs.declared.shown.GrantShown.{GrantShown}
use Rattle.reg_terms.specs.declared.shown.RowShown.{RowShown}
use Rattle.reg_terms.specs.declared.query.Answer.{Answer}
use Rattle.reg_terms.specs.declared.query.Answer.TheVariants as answer
use Rattle.reg_facts.specs.Children.{is_among}
use Rattle.reg_facts.specs.Lists.{Lists}
use Rattle.reg_facts.specs.Naming.{name_of}
use Rattle.reg_effect.specs.declared.live.Live.{Live}
use Rattle.reg_priv.specs.declared.who.Who.{Who}
use Rattle.reg_priv.specs.Grants.{Grant}
use Rattle.reg_priv.specs.Holders.{holders}
use Rattle.reg_priv.specs.May.{is_root, visible}
use Rattle.reg_view.specs.Past.{Past}
use Rattle.reg_view.specs.Texts.{holder_text, member_text}
use Rattle.reg_view.specs.View.{caller_of, is_admin, is_readable, objects}

-- ---- who may know of what

-- this is the text of a person that stands: all callers see persons
abbrev pub is_person_text : Lists → List ℕ → Bool
is_person_text f text = list_any (λ (row : SubjectRow). bytes_eq row.text text) f.subjects

-- the name of a group that the caller sees
abbrev pub is_seen_name : Live → Lists → Who → List ℕ → Bool
is_seen_name L f c name =
    list_any (λ (row : GroupRow). visible L f c (object.Group row.id)
    && bytes_eq (name_of (object.Group row.id) f) name) f.groups

-- the text of a member of a group that the caller may read
abbrev pub is_member_read : Live → Lists → Who → List ℕ → Bool
is_member_read L f c text =
    list_any (λ (row : MemberRow). is_readable L f c (object.Group row.group)
    && bytes_eq (member_text row.member f) text) f.rows

-- the name of a factor of a group that the caller may read
abbrev pub is_factor_read : Live → Lists → Who → List ℕ → Bool
is_factor_read L f c name =
    list_any (λ (row : CompositeRow). is_readable L f c (object.Group row.group)
    && (bytes_eq (name_of (object.Group row.left) f) name
    || bytes_eq (name_of (object.Group row.right) f) name)) f.composites

-- the text of who held a grant at a moment on an object that the caller administers
abbrev pub is_holder_told : Past → Live → Lists → Who → ℕ → List ℕ → Bool
is_holder_told p L f c at text =
    list_any (λ (o : Object). is_admin L f c o
    && is_among text (map (λ (g : Grant). holder_text p f g.1) (holders o (p.facts at))))
    (objects f)

-- ---- what an answer names

-- a test passes for each
abbrev pub AllPass : {A : Type 0} → (A → Bool) → List A → Type 0
AllPass test list = AllByRecursion (λ x. test x ≡ true) list

-- the factors of a composite, if there is one, are those of a group that the caller may read
abbrev pub AreFactorsKnown : Live → Lists → Who → Option FactorsShown → Type 0
AreFactorsKnown L f c None = ⊤
AreFactorsKnown L f c (Some factors) =
    (is_factor_read L f c factors.left ≡ true) × (is_factor_read L f c factors.right ≡ true)

-- the caller may know of all persons and groups that an answer about a moment names. Privileges and
-- attributes name none; consumers, the log, gone groups, jobs and rules are told to root alone
abbrev pub IsKnown : Past → Live → Lists → Who → ℕ → Answer → Type 0
IsKnown p L f c at (answer.GroupGet display name) = is_seen_name L f c name ≡ true
IsKnown p L f c at (answer.FolderList attributes definitions folders groups) =
    AllPass (is_seen_name L f c) groups
IsKnown p L f c at (answer.Members members) = AllPass (is_person_text f) members
IsKnown p L f c at (answer.Rows composite rows) =
    AreFactorsKnown L f c composite
    × AllPass (λ (row : RowShown). is_member_read L f c row.member) rows
IsKnown p L f c at (answer.Groups groups) = AllPass (is_seen_name L f c) groups
IsKnown p L f c at (answer.Grants grants) =
    AllPass (λ (grant : GrantShown). is_holder_told p L f c at grant.holder) grants
IsKnown p L f c at (answer.May privileges) = ⊤
IsKnown p L f c at (answer.Attributes assignments) = ⊤
IsKnown p L f c at (answer.History history) =
    AllPass (λ (span : SpanShown). is_person_text f span.subject) history
IsKnown p L f c at (answer.Log entries last place) = is_root L f c ≡ true
IsKnown p L f c at (answer.Admin consumers gone jobs rules) = is_root L f c ≡ true

-- and so it is of a caller that may not stand, who is answered nothing
abbrev pub IsKnownBy : Past → Live → Lists → Option Who → ℕ → Answer → Type 0
IsKnownBy p L f None at a = ⊥
IsKnownBy p L f (Some c) at a = IsKnown p L f c at a

-- the caller of this text stands, and may know of all that an answer about a moment names
abbrev pub IsKnownTo : Past → Live → Lists → ℕ → List ℕ → Answer → Type 0
IsKnownTo p L f at by a = IsKnownBy p L f (caller_of by f) at a
