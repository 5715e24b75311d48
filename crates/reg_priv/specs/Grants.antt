-- Grants: the privileges on an object and who holds them, as they are written on it and are on, and
-- as inherits give them.
use Rattle.std.specs.Prelude.{◌&&◌, ◌++◌, List, Bool, map, filter}
use Rattle.reg_base.specs.declared.privilege.Privilege.{Privilege}
use Rattle.reg_terms.specs.declared.kinds.Object.{Object}
use Rattle.reg_terms.specs.declared.kinds.Holder.{Holder}
use Rattle.reg_terms.specs.declared.rows.GrantRow.{GrantRow}
use Rattle.reg_terms.specs.declared.rows.InheritRow.{InheritRow}
use Rattle.reg_terms.specs.Kinds.{is_of_kind}
use Rattle.reg_facts.specs.Grants.{grants_on, has_begun}
use Rattle.reg_facts.specs.Lists.{Lists}
use Rattle.reg_names.specs.Scopes.{in_scope}

-- a privilege and its holder
abbrev pub Grant : Type 0
Grant = Privilege × Holder

-- what a grant gives
abbrev pub written : GrantRow → Grant
written row = (row.privilege, row.holder)

-- a grant is on, and what it gives passes a test
abbrev pub gives_one : (Grant → Bool) → GrantRow → Bool
gives_one t row = has_begun row && t (written row)

-- what an inherit gives
abbrev pub given : InheritRow → Grant
given row = (row.privilege, row.holder)

-- an inherit is for objects of this kind, and the object stands in its scope
abbrev pub reaches : Object → Lists → InheritRow → Bool
reaches o f row = is_of_kind row.kind o && in_scope row.folder row.scope o f

-- the grants on an object: direct ones that are on, and inherited ones
abbrev pub grants : Object → Lists → List Grant
grants o f =
    map written (filter has_begun (grants_on o f.grants))
    ++ map given (filter (reaches o f) f.inherits)
