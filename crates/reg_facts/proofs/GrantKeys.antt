-- Grants and inherits by the keys of their tables, and in words.
use Rattle.std.proofs.Common.{◌≡◌, ◌==◌, ◌∙◌, ℕ, List, Bool, true, false, not, refl, ap, map, filter}
use Rattle.std.specs.Prelude.{◌&&◌, if◌then◌else◌}
use Rattle.std.specs.List.{list_any, find}
use Rattle.reg_terms.specs.declared.kinds.Holder.{Holder}
use Rattle.reg_terms.specs.declared.kinds.Holder.TheVariants as holder
use Rattle.reg_terms.specs.declared.kinds.InheritKind.{InheritKind}
use Rattle.reg_terms.specs.declared.kinds.InheritKind.TheVariants as kind
use Rattle.reg_terms.specs.declared.kinds.Object.{Object}
use Rattle.reg_terms.specs.declared.kinds.Object.TheVariants as object
use Rattle.reg_terms.specs.declared.kinds.Scope.{Scope}
use Rattle.reg_terms.specs.declared.kinds.Scope.TheVariants.{One, Sub}
use Rattle.reg_terms.specs.declared.rows.GrantRow.{GrantRow}
use Rattle.reg_terms.specs.declared.rows.InheritRow.{InheritRow}
use Rattle.reg_terms.specs.contracts.kinds.HolderPartialEq.TheImpl as holder_eq
use Rattle.reg_terms.specs.contracts.kinds.InheritKindPartialEq.TheImpl as kind_eq
use Rattle.reg_terms.specs.contracts.kinds.ObjectPartialEq.TheImpl as object_eq
use Rattle.reg_terms.specs.contracts.kinds.ScopePartialEq.TheImpl as scope_eq
use Rattle.reg_terms.specs.Kinds.{same_object, same_holder, same_kind, same_scope}
use Rattle.reg_terms.specs.Privileges.{code}
use Rattle.reg_facts.specs.Grants.{same_grant, has_grant, replaced, grants_on, same_inherit, has_inherit}

-- what is derived says what the words say
pub object_is : (a b : Object) → object_eq.ghosts.eq a b ≡ same_object a b
object_is (object.Folder a) (object.Folder b) = refl
object_is (object.Folder a) (object.Group b) = refl
object_is (object.Folder a) (object.Def b) = refl
object_is (object.Folder a) (object.Attr b) = refl
object_is (object.Folder a) (object.Subject b) = refl
object_is (object.Group a) (object.Folder b) = refl
object_is (object.Group a) (object.Group b) = refl
object_is (object.Group a) (object.Def b) = refl
object_is (object.Group a) (object.Attr b) = refl
object_is (object.Group a) (object.Subject b) = refl
object_is (object.Def a) (object.Folder b) = refl
object_is (object.Def a) (object.Group b) = refl
object_is (object.Def a) (object.Def b) = refl
object_is (object.Def a) (object.Attr b) = refl
object_is (object.Def a) (object.Subject b) = refl
object_is (object.Attr a) (object.Folder b) = refl
object_is (object.Attr a) (object.Group b) = refl
object_is (object.Attr a) (object.Def b) = refl
object_is (object.Attr a) (object.Attr b) = refl
object_is (object.Attr a) (object.Subject b) = refl
object_is (object.Subject a) (object.Folder b) = refl
object_is (object.Subject a) (object.Group b) = refl
object_is (object.Subject a) (object.Def b) = refl
object_is (object.Subject a) (object.Attr b) = refl
object_is (object.Subject a) (object.Subject b) = refl

pub holder_is : (a b : Holder) → holder_eq.ghosts.eq a b ≡ same_holder a b
holder_is holder.Everyone holder.Everyone = refl
holder_is holder.Everyone (holder.Person b) = refl
holder_is holder.Everyone (holder.Group b) = refl
holder_is (holder.Person a) holder.Everyone = refl
holder_is (holder.Person a) (holder.Person b) = refl
holder_is (holder.Person a) (holder.Group b) = refl
holder_is (holder.Group a) holder.Everyone = refl
holder_is (holder.Group a) (holder.Person b) = refl
holder_is (holder.Group a) (holder.Group b) = refl

kind_is : (a b : InheritKind) → kind_eq.ghosts.eq a b ≡ same_kind a b
kind_is kind.Folder kind.Folder = refl
kind_is kind.Folder kind.Group = refl
kind_is kind.Folder kind.Definition = refl
kind_is kind.Group kind.Folder = refl
kind_is kind.Group kind.Group = refl
kind_is kind.Group kind.Definition = refl
kind_is kind.Definition kind.Folder = refl
kind_is kind.Definition kind.Group = refl
kind_is kind.Definition kind.Definition = refl

pub scope_is : (a b : Scope) → scope_eq.ghosts.eq a b ≡ same_scope a b
scope_is One One = refl
scope_is One Sub = refl
scope_is Sub One = refl
scope_is Sub Sub = refl

-- a grant's key is another's
abbrev pub is_grant_key : GrantRow → GrantRow → Bool
is_grant_key row other = object_eq.ghosts.eq other.object row.object && ((code other.privilege == code row.privilege) && holder_eq.ghosts.eq other.holder row.holder)

grant_is : (row other : GrantRow) → is_grant_key row other ≡ same_grant row other
grant_is row other = rw (object_is other.object row.object, holder_is other.holder row.holder) refl

pub grant_any : (row : GrantRow) (rows : List GrantRow) → list_any (is_grant_key row) rows ≡ has_grant row rows
grant_any row rows = ap (λ (test : GrantRow → Bool). list_any test rows) (λ i other. grant_is row other i)

pub grant_others : (row : GrantRow) (rows : List GrantRow) → filter (λ (other : GrantRow). not (is_grant_key row other)) rows ≡ filter (λ (other : GrantRow). not (same_grant row other)) rows
grant_others row rows = ap (λ (test : GrantRow → Bool). filter (λ (other : GrantRow). not (test other)) rows) (λ i other. grant_is row other i)

pub grant_found : (row : GrantRow) (rows : List GrantRow) → find (is_grant_key row) rows ≡ find (same_grant row) rows
grant_found row rows = ap (λ (test : GrantRow → Bool). find test rows) (λ i other. grant_is row other i)

pub grant_replaced : (row : GrantRow) (rows : List GrantRow) → map (λ (other : GrantRow). if is_grant_key row other then row else other) rows ≡ map (replaced row) rows
grant_replaced row rows = ap (λ (test : GrantRow → Bool). map (λ (other : GrantRow). if test other then row else other) rows) (λ i other. grant_is row other i)

pub grants_of_object : (o : Object) (rows : List GrantRow) → filter (λ (row : GrantRow). object_eq.ghosts.eq row.object o) rows ≡ grants_on o rows
grants_of_object o rows = ap (λ (test : GrantRow → Bool). filter test rows) (λ i row. object_is row.object o i)

pub grants_of_others : (o : Object) (rows : List GrantRow) → filter (λ (row : GrantRow). not (object_eq.ghosts.eq row.object o)) rows ≡ filter (λ (row : GrantRow). not (same_object row.object o)) rows
grants_of_others o rows = ap (λ (test : GrantRow → Bool). filter (λ (row : GrantRow). not (test row)) rows) (λ i row. object_is row.object o i)

-- an inherit's key is another's
abbrev pub is_inherit_key : InheritRow → InheritRow → Bool
is_inherit_key row other = (other.folder == row.folder) && (((kind_eq.ghosts.eq other.kind row.kind && scope_eq.ghosts.eq other.scope row.scope) && (code other.privilege == code row.privilege)) && holder_eq.ghosts.eq other.holder row.holder)

regrouped : (a b c d : Bool) → (((a && b) && c) && d) ≡ (a && (b && (c && d)))
regrouped true b c d = regrouped_second b c d
  where
    regrouped_second : (b c d : Bool) → ((b && c) && d) ≡ (b && (c && d))
    regrouped_second true c d = refl
    regrouped_second false c d = refl
regrouped false b c d = refl

inherit_is : (row other : InheritRow) → is_inherit_key row other ≡ same_inherit row other
inherit_is row other =
    rw (kind_is other.kind row.kind, scope_is other.scope row.scope, holder_is other.holder row.holder)
    (ap (λ b. (other.folder == row.folder) && b) (regrouped (same_kind other.kind row.kind) (same_scope other.scope row.scope) (code other.privilege == code row.privilege) (same_holder other.holder row.holder)))

pub inherit_any : (row : InheritRow) (rows : List InheritRow) → list_any (is_inherit_key row) rows ≡ has_inherit row rows
inherit_any row rows = ap (λ (test : InheritRow → Bool). list_any test rows) (λ i other. inherit_is row other i)

pub inherit_others : (row : InheritRow) (rows : List InheritRow) → filter (λ (other : InheritRow). not (is_inherit_key row other)) rows ≡ filter (λ (other : InheritRow). not (same_inherit row other)) rows
inherit_others row rows = ap (λ (test : InheritRow → Bool). filter (λ (other : InheritRow). not (test other)) rows) (λ i other. inherit_is row other i)
