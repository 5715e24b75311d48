-- Worked examples computed: a group with VIEW alone, one without, a privilege that a complement holds, a move out of a scope, the past of a group that is gone, what root is told, grants of the past, attributes, and hidden members and holders.
use Rattle.std.proofs.Common.{◌≡◌, ◌==◌, ◌&&◌, ℕ, Bool, true, false, Option, List, [], ◌∷◌, Result, Ok, Err, Some, None, codes, refl}
use Rattle.std.specs.Prelude.{if◌then◌else◌, nat_le, nat_lt}
use Rattle.reg_base.specs.Entities.{entity_of}
use Rattle.reg_base.specs.NameParts.{extension_of, folder_of}
use Rattle.reg_base.specs.declared.entity.Entity.TheVariants as entity
use Rattle.reg_base.specs.declared.privilege.Privilege.TheVariants as privilege
use Rattle.reg_terms.specs.declared.command.Command.{Command}
use Rattle.reg_terms.specs.declared.command.Command.TheVariants.{FolderAdd, FolderMove, ConsumerAdd, GroupAdd, GroupDelete, SubjectAdd, MemberAdd, CompositeSet, GrantAdd, GrantRemove, InheritAdd, AttrdefAdd, AttrdefDelete, AttrAdd, AttrDelete, AssignAdd, AssignRemove, ValueAdd}
use Rattle.reg_terms.specs.declared.entry_kinds.EntryKind.TheVariants as kinds
use Rattle.reg_terms.specs.declared.kinds.AttrValue.TheVariants as attr
use Rattle.reg_terms.specs.declared.kinds.DefKind.TheVariants.{Text}
use Rattle.reg_terms.specs.declared.kinds.Holder.TheVariants as holder
use Rattle.reg_terms.specs.declared.kinds.InheritKind.TheVariants as kind
use Rattle.reg_terms.specs.declared.kinds.Object.{Object}
use Rattle.reg_terms.specs.declared.kinds.Object.TheVariants as object
use Rattle.reg_terms.specs.declared.kinds.Scope.TheVariants.{Sub}
use Rattle.reg_terms.specs.declared.kinds.SetOp.TheVariants.{Complement}
use Rattle.reg_terms.specs.declared.kinds.Value.TheVariants as given
use Rattle.reg_terms.specs.declared.refusal.Refusal.{Refusal}
use Rattle.reg_terms.specs.declared.refusal.Refusal.TheVariants.{NotFound, Denied, Future, WrongKind}
use Rattle.reg_terms.specs.declared.query.Query.{Query}
use Rattle.reg_terms.specs.declared.query.Query.TheVariants as query
use Rattle.reg_terms.specs.declared.query.Answer.{Answer}
use Rattle.reg_terms.specs.declared.query.Answer.TheVariants as answer
use Rattle.reg_facts.specs.Events.{edit, events_of}
use Rattle.reg_facts.specs.Grants.{object_of}
use Rattle.reg_facts.specs.Lists.{Lists, start}
use Rattle.reg_facts.specs.Naming.{resolve, placed, lies_in, path, extensions, name_of}
use Rattle.reg_facts.specs.RowOrder.{rows_of}
use Rattle.reg_effect.specs.Changes.{live_of}
use Rattle.reg_effect.specs.Member.{member}
use Rattle.reg_view.specs.Knowing.{IsKnownTo}
use Rattle.reg_view.specs.Past.{Past, moment_of}
use Rattle.reg_view.specs.Show.{show}
use Rattle.reg_view.specs.View.{view_of}

-- the facts after some commands of the registry itself
abbrev after : List Command → Lists → Lists
after [] f = f
after (c ∷ cs) f = after cs (edit 0 entity.System c f)

-- a past in which all was as it is
abbrev nothing_past : Lists → Past
nothing_past f = record { facts = λ t. f; was = λ t g s. member (live_of 0 f.rows f.composites) g s; spans = λ g s. []; lines = []; gone = []; gone_by_id = []; last_name = λ o. []; def_of = λ a. None }

-- what a caller is answered
abbrev asks : Lists → List ℕ → Query → Result Answer Refusal
asks f by q = show (view_of (nothing_past f) (live_of 0 f.rows f.composites) f 0 0 by) q

pub ann_and_g : Lists
ann_and_g = after (SubjectAdd (entity.Person (codes "uni/ann")) [] ∷ GroupAdd (codes "g") [] ∷ []) start

pub not_seen : asks ann_and_g (codes "uni/ann") (query.Members (codes "g") None) ≡ Err (NotFound (codes "g"))
unfolding ann_and_g events_of entity_of resolve placed lies_in path extensions name_of rows_of member extension_of folder_of
not_seen = refl

pub seen_but_not_read : asks (after (GrantAdd (codes "g") privilege.View (entity.Person (codes "uni/ann")) None None ∷ []) ann_and_g) (codes "uni/ann") (query.Members (codes "g") None) ≡ Err (Denied (codes "g") (codes "READ"))
unfolding ann_and_g events_of entity_of object_of resolve placed lies_in path extensions name_of rows_of member extension_of folder_of
seen_but_not_read = refl

-- bob reads g as long as he is in base and not in bad, of which worse is a member
pub readers : Lists
readers = after (
    SubjectAdd (entity.Person (codes "uni/bob")) []
    ∷ GroupAdd (codes "worse") [] ∷ GroupAdd (codes "bad") [] ∷ GroupAdd (codes "base") [] ∷ GroupAdd (codes "readers") [] ∷ GroupAdd (codes "g") []
    ∷ MemberAdd (codes "bad") (entity.Group (codes "worse")) None None
    ∷ CompositeSet (codes "readers") Complement (codes "base") (codes "bad")
    ∷ MemberAdd (codes "base") (entity.Person (codes "uni/bob")) None None
    ∷ GrantAdd (codes "g") privilege.Read (entity.Group (codes "readers")) None None ∷ GrantAdd (codes "g") privilege.View entity.Everyone None None ∷ []
    ) start

pub reads_by_complement : asks readers (codes "uni/bob") (query.Members (codes "g") None) ≡ Ok (answer.Members [])
unfolding readers events_of entity_of object_of resolve placed lies_in path extensions name_of rows_of member extension_of folder_of
reads_by_complement = refl

pub no_longer : asks (after (MemberAdd (codes "worse") (entity.Person (codes "uni/bob")) None None ∷ []) readers) (codes "uni/bob") (query.Members (codes "g") None) ≡ Err (Denied (codes "g") (codes "READ"))
unfolding readers events_of entity_of object_of resolve placed lies_in path extensions name_of rows_of member extension_of folder_of
no_longer = refl

-- bob may update all groups below app
pub below_app : Lists
below_app = after (
    FolderAdd (codes "app") [] ∷ FolderAdd (codes "app:web") [] ∷ FolderAdd (codes "old") [] ∷ GroupAdd (codes "app:web:admins") []
    ∷ SubjectAdd (entity.Person (codes "uni/bob")) []
    ∷ InheritAdd (codes "app") kind.Group Sub privilege.Update (entity.Person (codes "uni/bob")) ∷ []
    ) start

pub may_below : asks below_app (codes "uni/bob") (query.May (codes "app:web:admins") (entity.Person (codes "uni/bob")) None) ≡ Ok (answer.May (privilege.Update ∷ privilege.View ∷ privilege.Optin ∷ privilege.Optout ∷ []))
unfolding below_app events_of entity_of object_of resolve placed lies_in path extensions name_of rows_of member extension_of folder_of
may_below = refl

pub moved_away : asks (after (FolderMove (codes "app:web") (codes "old") ∷ []) below_app) (codes "uni/bob") (query.GroupGet (codes "old:web:admins")) ≡ Err (NotFound (codes "old:web:admins"))
unfolding below_app events_of entity_of object_of resolve placed lies_in path extensions name_of rows_of member extension_of folder_of
moved_away = refl

-- ann was in g from 5 to 8 and is in h from 6 on; at 9 g went
pub after_g : Lists
after_g = after (SubjectAdd (entity.Person (codes "uni/ann")) [] ∷ GroupAdd (codes "g") [] ∷ GroupAdd (codes "h") [] ∷ []) start

abbrev was_in : ℕ → ℕ → ℕ → Bool
was_in t g s = if (g == 1) && (s == 1) then nat_le 5 t && nat_lt t 8 else (g == 2) && (s == 1) && nat_le 6 t

abbrev was_when : ℕ → ℕ → List (ℕ × Option ℕ)
was_when g s = if s == 1 then (if g == 1 then (5, Some 8) ∷ [] else (6, None) ∷ []) else []

abbrev names_last : Object → List ℕ
names_last (object.Group g) = if g == 1 then codes "g" else codes "h"
names_last (object.Subject s) = codes "uni/ann"
names_last _ = []

-- the facts after g went, and what was before
pub without_g : Lists
without_g = after (GroupDelete (codes "g") ∷ ConsumerAdd (codes "c1") ∷ []) after_g

abbrev with_past : Past
with_past = record {
  facts = λ t. if nat_lt t 9 then after_g else without_g;
  was = was_in;
  spans = was_when;
  lines = (record { at = 5; kind = kinds.RowAdd; object = Some (object.Group 1); entity = Some (holder.Person 1); number = 0 }) ∷ (record { at = 9; kind = kinds.GroupDelete; object = Some (object.Group 1); entity = None; number = 0 }) ∷ [];
  gone = (1, codes "g") ∷ [];
  gone_by_id = (1, 9) ∷ [];
  last_name = names_last;
  def_of = λ a. None;
}

-- what a caller is answered at 10
abbrev asks_then : List ℕ → Option ℕ → Query → Result Answer Refusal
asks_then by at q = show (view_of with_past (live_of 10 without_g.rows without_g.composites) without_g 10 (moment_of 10 at) by) q

abbrev root : List ℕ
root = codes "g:isa/GrouperSystem"

pub gone_members : asks_then root (Some 7) (query.Members (codes "g") (Some 7)) ≡ Ok (answer.Members (codes "uni/ann" ∷ []))
unfolding after_g without_g events_of entity_of resolve placed lies_in path extensions name_of rows_of member extension_of folder_of
gone_members = refl

pub gone_at_its_end : asks_then root (Some 8) (query.Members (codes "g") (Some 8)) ≡ Ok (answer.Members [])
unfolding after_g without_g events_of entity_of resolve placed lies_in path extensions name_of rows_of member extension_of folder_of
gone_at_its_end = refl

pub gone_for_others : asks_then (codes "uni/ann") (Some 7) (query.Members (codes "g") (Some 7)) ≡ Err (NotFound (codes "g"))
unfolding after_g without_g events_of entity_of resolve placed lies_in path extensions name_of rows_of member extension_of folder_of
gone_for_others = refl

pub later_than_now : asks_then root (Some 11) (query.Members (codes "g") (Some 11)) ≡ Err (Future 11 10)
unfolding after_g without_g events_of entity_of resolve placed lies_in path extensions name_of rows_of member extension_of folder_of
later_than_now = refl

pub groups_before : asks_then root (Some 6) (query.Groups (entity.Person (codes "uni/ann")) (Some 6)) ≡ Ok (answer.Groups (codes "h" ∷ []))
unfolding after_g without_g events_of entity_of resolve placed lies_in path extensions name_of rows_of member extension_of folder_of
groups_before = refl

pub history_of_gone : asks_then root None (query.History (codes "g")) ≡ Ok (answer.History ((record { from = 5; subject = codes "uni/ann"; to = Some 8 }) ∷ []))
unfolding after_g without_g events_of entity_of resolve placed lies_in path extensions name_of rows_of member extension_of folder_of
history_of_gone = refl

pub log_of_one : asks_then root None (query.Log (codes "c1") 1) ≡ Ok (answer.Log ((record { at = 5; entity = codes "uni/ann"; kind = kinds.RowAdd; number = 0; object = codes "g"; seq = 1 }) ∷ []) 2 0)
unfolding after_g without_g events_of entity_of resolve placed lies_in path extensions name_of rows_of member extension_of folder_of
log_of_one = refl

pub log_for_others : asks_then (codes "uni/ann") None (query.Log (codes "c1") 1) ≡ Err (NotFound (codes "c1"))
unfolding after_g without_g events_of entity_of resolve placed lies_in path extensions name_of rows_of member extension_of folder_of
log_for_others = refl

pub admin_of_root : asks_then root None query.Admin ≡ Ok (answer.Admin ((record { consumer = codes "c1"; place = 0 }) ∷ []) ((record { ended = 9; group = codes "g" }) ∷ []) [] [])
unfolding after_g without_g events_of entity_of resolve placed lies_in path extensions name_of rows_of member extension_of folder_of
admin_of_root = refl

pub admin_for_others : asks_then (codes "uni/ann") None query.Admin ≡ Err (Denied (codes ":") (codes "ROOT"))
unfolding after_g without_g events_of entity_of resolve placed lies_in path extensions name_of rows_of member extension_of folder_of
admin_for_others = refl

-- bob was the admin of g until 6, and from then on ann is
pub by_bob : Lists
by_bob = after (
    SubjectAdd (entity.Person (codes "uni/ann")) [] ∷ SubjectAdd (entity.Person (codes "uni/bob")) [] ∷ GroupAdd (codes "g") []
    ∷ GrantAdd (codes "g") privilege.View entity.Everyone None None ∷ GrantAdd (codes "g") privilege.Admin (entity.Person (codes "uni/bob")) None None ∷ []
    ) start

pub by_ann : Lists
by_ann = after (GrantRemove (codes "g") privilege.Admin (entity.Person (codes "uni/bob")) ∷ GrantAdd (codes "g") privilege.Admin (entity.Person (codes "uni/ann")) None None ∷ []) by_bob

abbrev grants_past : Past
grants_past = record { facts = λ t. if nat_lt t 6 then by_bob else by_ann; was = λ t g s. false; spans = λ g s. []; lines = []; gone = []; gone_by_id = []; last_name = λ o. []; def_of = λ a. None }

-- what a caller is answered at 10
abbrev asks_of_grants : List ℕ → Option ℕ → Query → Result Answer Refusal
asks_of_grants by at q = show (view_of grants_past (live_of 10 by_ann.rows by_ann.composites) by_ann 10 (moment_of 10 at) by) q

-- the admin of now is told the grants of then
pub grants_before : asks_of_grants (codes "uni/ann") (Some 5) (query.Grants (codes "g") (Some 5)) ≡ Ok (answer.Grants ((record { holder = codes "uni/bob"; privilege = privilege.Admin }) ∷ (record { holder = codes "g:isa/GrouperAll"; privilege = privilege.View }) ∷ []))
unfolding by_bob by_ann events_of entity_of object_of resolve placed lies_in path extensions name_of rows_of member extension_of folder_of
grants_before = refl

-- and the admin of then is told nothing
pub admin_before : asks_of_grants (codes "uni/bob") (Some 5) (query.Grants (codes "g") (Some 5)) ≡ Err (Denied (codes "g") (codes "ADMIN"))
unfolding by_bob by_ann events_of entity_of object_of resolve placed lies_in path extensions name_of rows_of member extension_of folder_of
admin_before = refl

-- what bob could do at 5, and at 6
pub could_before : asks_of_grants (codes "uni/ann") (Some 5) (query.May (codes "g") (entity.Person (codes "uni/bob")) (Some 5))
    ≡ Ok (answer.May (privilege.Admin ∷ privilege.Update ∷ privilege.Read ∷ privilege.View ∷ privilege.Optin ∷ privilege.Optout ∷ privilege.GroupAttrRead ∷ privilege.GroupAttrUpdate ∷ []))
unfolding by_bob by_ann events_of entity_of object_of resolve placed lies_in path extensions name_of rows_of member extension_of folder_of
could_before = refl

pub could_then : asks_of_grants (codes "uni/bob") (Some 6) (query.May (codes "g") (entity.Person (codes "uni/bob")) (Some 6)) ≡ Ok (answer.May (privilege.View ∷ []))
unfolding by_bob by_ann events_of entity_of object_of resolve placed lies_in path extensions name_of rows_of member extension_of folder_of
could_then = refl

-- ann may read the attributes of g, to which risk is assigned, an attribute of level
pub at_risk : Lists
at_risk = after (
    SubjectAdd (entity.Person (codes "uni/ann")) [] ∷ GroupAdd (codes "g") []
    ∷ AttrdefAdd (codes "level") (record { folder = false; group = true; subject = false }) false Text false
    ∷ AttrAdd (codes "risk") (codes "level") ∷ AssignAdd (codes "risk") (codes "g") ∷ ValueAdd (codes "risk") (codes "g") 1 (given.Text (codes "high"))
    ∷ GrantAdd (codes "g") privilege.GroupAttrRead (entity.Person (codes "uni/ann")) None None ∷ []
    ) start

-- and what is assigned of level
pub told_level : Lists
told_level = after (GrantAdd (codes "level") privilege.AttrRead (entity.Person (codes "uni/ann")) None None ∷ []) at_risk

-- at 6 the assignment went, and the attribute and the definition with it
pub no_risk : Lists
no_risk = after (AssignRemove (codes "risk") (codes "g") 1 ∷ AttrDelete (codes "risk") ∷ AttrdefDelete (codes "level") ∷ []) told_level

abbrev risk_past : Lists → Past
risk_past f = record { facts = λ t. if nat_lt t 6 then told_level else f; was = λ t g s. false; spans = λ g s. []; lines = []; gone = []; gone_by_id = []; last_name = λ o. codes "risk"; def_of = λ a. Some 1 }

-- what a caller is answered at 10, where these are the facts from 6 on
abbrev asks_of_risk : Lists → List ℕ → Option ℕ → Query → Result Answer Refusal
asks_of_risk f by at q = show (view_of (risk_past f) (live_of 10 f.rows f.composites) f 10 (moment_of 10 at) by) q

abbrev risk : Answer
risk = answer.Attributes ((record { attribute = codes "risk"; id = 1; values = attr.Text (codes "high") ∷ [] }) ∷ [])

pub without_attr_read : asks_of_risk at_risk (codes "uni/ann") None (query.Attributes (codes "g") None) ≡ Ok (answer.Attributes [])
unfolding at_risk told_level events_of entity_of object_of resolve placed lies_in path extensions name_of rows_of member extension_of folder_of
without_attr_read = refl

pub with_attr_read : asks_of_risk told_level (codes "uni/ann") None (query.Attributes (codes "g") None) ≡ Ok risk
unfolding at_risk told_level events_of entity_of object_of resolve placed lies_in path extensions name_of rows_of member extension_of folder_of
with_attr_read = refl

-- who had attrRead then isn't told what was then, and root is
pub by_the_reader_of_then : asks_of_risk no_risk (codes "uni/ann") (Some 5) (query.Attributes (codes "g") (Some 5)) ≡ Ok (answer.Attributes [])
unfolding at_risk told_level no_risk events_of entity_of object_of resolve placed lies_in path extensions name_of rows_of member extension_of folder_of
by_the_reader_of_then = refl

pub by_root_of_then : asks_of_risk no_risk root (Some 5) (query.Attributes (codes "g") (Some 5)) ≡ Ok risk
unfolding at_risk told_level no_risk events_of entity_of object_of resolve placed lies_in path extensions name_of rows_of member extension_of folder_of
by_root_of_then = refl

pub gone_by_now : asks_of_risk no_risk root None (query.Attributes (codes "g") None) ≡ Ok (answer.Attributes [])
unfolding at_risk told_level no_risk events_of entity_of object_of resolve placed lies_in path extensions name_of rows_of member extension_of folder_of
gone_by_now = refl

-- a group's entity is no owner, nor is a definition, whatever the caller may do
pub no_owner : asks_of_risk told_level (codes "uni/ann") None (query.Attributes (codes "g:gsa/g") None) ≡ Err (WrongKind (codes "object"))
unfolding at_risk told_level events_of entity_of object_of resolve placed lies_in path extensions name_of rows_of member extension_of folder_of
no_owner = refl

pub definition_no_owner : asks_of_risk told_level (codes "uni/ann") None (query.Attributes (codes "level") None) ≡ Err (WrongKind (codes "object"))
unfolding at_risk told_level events_of entity_of object_of resolve placed lies_in path extensions name_of rows_of member extension_of folder_of
definition_no_owner = refl

pub folder_not_read : asks_of_risk told_level (codes "uni/ann") None (query.Attributes (codes ":") None) ≡ Err (Denied (codes ":") (codes "stemAttrRead"))
unfolding at_risk told_level events_of entity_of object_of resolve placed lies_in path extensions name_of rows_of member extension_of folder_of
folder_not_read = refl

-- ann reads g and is the admin of k; the hidden h is a member of g, and the hidden j views k
pub with_hidden : Lists
with_hidden = after (
    SubjectAdd (entity.Person (codes "uni/ann")) []
    ∷ GroupAdd (codes "g") [] ∷ GroupAdd (codes "h") [] ∷ GroupAdd (codes "j") [] ∷ GroupAdd (codes "k") []
    ∷ MemberAdd (codes "g") (entity.Group (codes "h")) None None
    ∷ GrantAdd (codes "g") privilege.Read (entity.Person (codes "uni/ann")) None None
    ∷ GrantAdd (codes "k") privilege.Admin (entity.Person (codes "uni/ann")) None None
    ∷ GrantAdd (codes "k") privilege.View (entity.Group (codes "j")) None None ∷ []
    ) start

pub hidden_not_listed : asks with_hidden (codes "uni/ann") (query.FolderList (codes ":")) ≡ Ok (answer.FolderList [] [] [] (codes "g" ∷ codes "k" ∷ []))
unfolding with_hidden events_of entity_of object_of resolve placed lies_in path extensions name_of rows_of member extension_of folder_of
hidden_not_listed = refl

pub hidden_member_shown : asks with_hidden (codes "uni/ann") (query.Rows (codes "g")) ≡ Ok (answer.Rows None ((record { from = 0; member = codes "g:gsa/h"; until = None }) ∷ []))
unfolding with_hidden events_of entity_of object_of resolve placed lies_in path extensions name_of rows_of member extension_of folder_of
hidden_member_shown = refl

pub hidden_holder_shown : asks with_hidden (codes "uni/ann") (query.Grants (codes "k") None) ≡ Ok (answer.Grants ((record { holder = codes "uni/ann"; privilege = privilege.Admin }) ∷ (record { holder = codes "g:gsa/j"; privilege = privilege.View }) ∷ []))
unfolding with_hidden events_of entity_of object_of resolve placed lies_in path extensions name_of rows_of member extension_of folder_of
hidden_holder_shown = refl

-- an answer that ann may know of
abbrev ann_knows : Answer → Type 0
ann_knows a = IsKnownTo (nothing_past with_hidden) (live_of 0 with_hidden.rows with_hidden.composites) with_hidden 0 (codes "uni/ann") a

-- a hidden group isn't listed, a holder is no member, and a member no holder
pub not_in_a_list : ann_knows (answer.FolderList [] [] [] (codes "h" ∷ [])) → ⊥
unfolding with_hidden events_of entity_of object_of resolve placed lies_in path extensions name_of rows_of member extension_of folder_of
not_in_a_list h = let is : false ≡ true = h.0 in cc

pub holder_is_no_member : ann_knows (answer.Rows None ((record { from = 0; member = codes "g:gsa/j"; until = None }) ∷ [])) → ⊥
unfolding with_hidden events_of entity_of object_of resolve placed lies_in path extensions name_of rows_of member extension_of folder_of
holder_is_no_member h = let is : false ≡ true = h.1.0 in cc

pub member_is_no_holder : ann_knows (answer.Grants ((record { holder = codes "g:gsa/h"; privilege = privilege.View }) ∷ [])) → ⊥
unfolding with_hidden events_of entity_of object_of resolve placed lies_in path extensions name_of rows_of member extension_of folder_of
member_is_no_holder h = let is : false ≡ true = h.0 in cc
