-- What an inherit allows, apart from where it is written.
use Rattle.std.specs.Prelude.{◌&&◌, Bool}
use Rattle.reg_base.specs.declared.privilege.Privilege.{Privilege}
use Rattle.reg_terms.specs.declared.kinds.Object.{Object}
use Rattle.reg_terms.specs.declared.kinds.Scope.{Scope}
use Rattle.reg_terms.specs.declared.rows.InheritRow.{InheritRow}
use Rattle.reg_terms.specs.Kinds.{is_of_kind, same_scope}
use Rattle.reg_effect.specs.declared.live.Live.{Live}
use Rattle.reg_priv.specs.declared.who.Who.{Who}
use Rattle.reg_priv.specs.Grants.{given}
use Rattle.reg_priv.specs.May.{allows}

-- an inherit has this scope, is for objects of this kind, and allows it
abbrev pub lends : Live → Who → Privilege → Object → Scope → InheritRow → Bool
lends L who p o s row =
    same_scope row.scope s && (is_of_kind row.kind o && allows L who p (given row))
