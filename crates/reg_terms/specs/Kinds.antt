-- What rows speak of: when two of them are one, and of which kind an object is.
use Rattle.std.specs.Prelude.{ℕ, ◌==◌, Bool, true, false, Option, Some, None}
use Rattle.reg_terms.specs.declared.kinds.Object.{Object}
use Rattle.reg_terms.specs.declared.kinds.Object.TheVariants as object
use Rattle.reg_terms.specs.declared.kinds.Member.{Member}
use Rattle.reg_terms.specs.declared.kinds.Member.TheVariants as member
use Rattle.reg_terms.specs.declared.kinds.Holder.{Holder}
use Rattle.reg_terms.specs.declared.kinds.Holder.TheVariants as holder
use Rattle.reg_terms.specs.declared.kinds.Scope.{Scope}
use Rattle.reg_terms.specs.declared.kinds.Scope.TheVariants.{One, Sub}
use Rattle.reg_terms.specs.declared.kinds.InheritKind.{InheritKind}
use Rattle.reg_terms.specs.declared.kinds.InheritKind.TheVariants as kind

-- the two objects are one
abbrev pub same_object : Object → Object → Bool
same_object (object.Folder a) (object.Folder b) = a == b
same_object (object.Group a) (object.Group b) = a == b
same_object (object.Def a) (object.Def b) = a == b
same_object (object.Attr a) (object.Attr b) = a == b
same_object (object.Subject a) (object.Subject b) = a == b
same_object _ _ = false

-- the two holders are one
abbrev pub same_holder : Holder → Holder → Bool
same_holder holder.Everyone holder.Everyone = true
same_holder (holder.Person a) (holder.Person b) = a == b
same_holder (holder.Group a) (holder.Group b) = a == b
same_holder _ _ = false

-- the two members are one
abbrev pub same_member : Member → Member → Bool
same_member (member.Person a) (member.Person b) = a == b
same_member (member.Person a) (member.Group b) = false
same_member (member.Group a) (member.Person b) = false
same_member (member.Group a) (member.Group b) = a == b

-- the two scopes are one
abbrev pub same_scope : Scope → Scope → Bool
same_scope One One = true
same_scope Sub Sub = true
same_scope _ _ = false

-- the two kinds are one
abbrev pub same_kind : InheritKind → InheritKind → Bool
same_kind kind.Folder kind.Folder = true
same_kind kind.Group kind.Group = true
same_kind kind.Definition kind.Definition = true
same_kind _ _ = false

-- an object is of the kind that has privileges of its own
abbrev pub is_of_kind : InheritKind → Object → Bool
is_of_kind kind.Folder (object.Folder d) = true
is_of_kind kind.Group (object.Group g) = true
is_of_kind kind.Definition (object.Def a) = true
is_of_kind _ _ = false

-- the group that a member or a holder is, if it is one
abbrev pub member_group : Member → Option ℕ
member_group (member.Person s) = None
member_group (member.Group g) = Some g

abbrev pub holder_group : Holder → Option ℕ
holder_group holder.Everyone = None
holder_group (holder.Person s) = None
holder_group (holder.Group g) = Some g

-- a folder's id, if the object is one
abbrev pub as_folder : Option Object → Option ℕ
as_folder None = None
as_folder (Some (object.Folder d)) = Some d
as_folder (Some (object.Group g)) = None
as_folder (Some (object.Def a)) = None
as_folder (Some (object.Attr a)) = None
as_folder (Some (object.Subject s)) = None

-- a group's id, if the object is one
abbrev pub as_group : Option Object → Option ℕ
as_group None = None
as_group (Some (object.Folder d)) = None
as_group (Some (object.Group g)) = Some g
as_group (Some (object.Def a)) = None
as_group (Some (object.Attr a)) = None
as_group (Some (object.Subject s)) = None

-- a definition's id, if the object is one
abbrev pub as_definition : Option Object → Option ℕ
as_definition None = None
as_definition (Some (object.Folder d)) = None
as_definition (Some (object.Group g)) = None
as_definition (Some (object.Def a)) = Some a
as_definition (Some (object.Attr a)) = None
as_definition (Some (object.Subject s)) = None

-- an attribute's id, if the object is one
abbrev pub as_attribute : Option Object → Option ℕ
as_attribute None = None
as_attribute (Some (object.Folder d)) = None
as_attribute (Some (object.Group g)) = None
as_attribute (Some (object.Def a)) = None
as_attribute (Some (object.Attr a)) = Some a
as_attribute (Some (object.Subject s)) = None
