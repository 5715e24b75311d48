-- The privileges: under Grouper's names, each with its code, the kind of object that it is of, and
-- what it gives besides itself.
use Rattle.std.specs.Prelude.{ℕ, ◌==◌, ◌||◌, List, [], ◌∷◌, Bool, codes, Option}
use Rattle.std.specs.List.{list_any, find}
use Rattle.std.specs.Str.{bytes_eq}
use Rattle.reg_base.specs.declared.privilege.Privilege.{Privilege}
use Rattle.reg_base.specs.declared.privilege.Privilege.TheVariants.{Admin, Update, Read, View}
use Rattle.reg_base.specs.declared.privilege.Privilege.TheVariants.{Optin, Optout, GroupAttrRead}
use Rattle.reg_base.specs.declared.privilege.Privilege.TheVariants.{GroupAttrUpdate, StemAdmin}
use Rattle.reg_base.specs.declared.privilege.Privilege.TheVariants.{Create, StemAttrRead}
use Rattle.reg_base.specs.declared.privilege.Privilege.TheVariants.{StemAttrUpdate, AttrAdmin}
use Rattle.reg_base.specs.declared.privilege.Privilege.TheVariants.{AttrUpdate, AttrRead, AttrView}
use Rattle.reg_terms.specs.declared.kinds.InheritKind.{InheritKind}
use Rattle.reg_terms.specs.declared.kinds.InheritKind.TheVariants.{Folder, Group, Definition}

-- a line of the table of privileges
pub record PrivilegeLine : Type 0 where
  pub code : ℕ
  pub name : List ℕ
  pub on : InheritKind
  pub gives : List Privilege

abbrev pub line : ℕ → List ℕ → InheritKind → List Privilege → PrivilegeLine
line code name on gives = record { code = code; name = name; on = on; gives = gives }

-- the table
abbrev pub line_of : Privilege → PrivilegeLine
line_of Admin =
    line 1 (codes "ADMIN") Group (Update ∷ Read ∷ View ∷ Optin ∷ Optout ∷ GroupAttrRead
    ∷ GroupAttrUpdate ∷ [])
line_of Update = line 2 (codes "UPDATE") Group (View ∷ Optin ∷ Optout ∷ [])
line_of Read = line 3 (codes "READ") Group (View ∷ [])
line_of View = line 4 (codes "VIEW") Group []
line_of Optin = line 5 (codes "OPTIN") Group (View ∷ [])
line_of Optout = line 6 (codes "OPTOUT") Group (View ∷ [])
line_of GroupAttrRead = line 7 (codes "groupAttrRead") Group (View ∷ [])
line_of GroupAttrUpdate = line 8 (codes "groupAttrUpdate") Group (View ∷ [])
line_of StemAdmin = line 9 (codes "stemAdmin") Folder (Create ∷ StemAttrRead ∷ StemAttrUpdate ∷ [])
line_of Create = line 10 (codes "create") Folder []
line_of StemAttrRead = line 11 (codes "stemAttrRead") Folder []
line_of StemAttrUpdate = line 12 (codes "stemAttrUpdate") Folder []
line_of AttrAdmin = line 13 (codes "attrAdmin") Definition (AttrUpdate ∷ AttrRead ∷ AttrView ∷ [])
line_of AttrUpdate = line 14 (codes "attrUpdate") Definition (AttrView ∷ [])
line_of AttrRead = line 15 (codes "attrRead") Definition (AttrView ∷ [])
line_of AttrView = line 16 (codes "attrView") Definition []

abbrev pub code : Privilege → ℕ
code p = (line_of p).code

-- the two are one
abbrev pub same_privilege : Privilege → Privilege → Bool
same_privilege p q = code p == code q

-- a privilege is another, or gives it
abbrev pub gives : Privilege → Privilege → Bool
gives held wanted =
    same_privilege held wanted || list_any (same_privilege wanted) (line_of held).gives

-- all of them, by code
abbrev pub all_privileges : List Privilege
all_privileges =
    Admin ∷ Update ∷ Read ∷ View ∷ Optin ∷ Optout ∷ GroupAttrRead ∷ GroupAttrUpdate ∷ StemAdmin
    ∷ Create ∷ StemAttrRead ∷ StemAttrUpdate ∷ AttrAdmin ∷ AttrUpdate ∷ AttrRead ∷ AttrView ∷ []

-- the privilege of a code
unfoldable pub privilege_coded : ℕ → Option Privilege
privilege_coded n = find (λ p. code p == n) all_privileges

-- the privilege of a name
unfoldable pub privilege_named : List ℕ → Option Privilege
privilege_named word = find (λ p. bytes_eq (line_of p).name word) all_privileges
