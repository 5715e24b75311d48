-- What an entity may do as a caller; what is no caller may do nothing.
use Rattle.std.specs.Prelude.{Bool, false, Some, None}
use Rattle.reg_base.specs.declared.entity.Entity.{Entity}
use Rattle.reg_base.specs.declared.privilege.Privilege.{Privilege}
use Rattle.reg_terms.specs.declared.kinds.Object.{Object}
use Rattle.reg_facts.specs.Lists.{Lists}
use Rattle.reg_effect.specs.declared.live.Live.{Live}
use Rattle.reg_priv.specs.May.{who_of, is_root, may}

-- whether a caller may do everything
abbrev pub caller_is_root : Live → Lists → Entity → Bool
caller_is_root L f c = elim (who_of c f) [ None ↦ false | Some who ↦ is_root L f who ]

-- whether a caller has a privilege on an object
abbrev pub caller_may : Live → Lists → Entity → Object → Privilege → Bool
caller_may L f c o p = elim (who_of c f) [ None ↦ false | Some who ↦ may L f who o p ]
