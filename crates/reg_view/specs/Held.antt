-- Privileges by grants of which it is known whose they are.
use Rattle.std.specs.Prelude.{◌&&◌, ◌||◌, List, Bool, filter, map}
use Rattle.std.specs.List.{list_any}
use Rattle.reg_base.specs.declared.privilege.Privilege.{Privilege}
use Rattle.reg_terms.specs.Kinds.{is_of_kind}
use Rattle.reg_terms.specs.Privileges.{gives, line_of}
use Rattle.reg_terms.specs.declared.kinds.Object.{Object}
use Rattle.reg_effect.specs.declared.live.Live.{Live}
use Rattle.reg_priv.specs.declared.who.Who.{Who}
use Rattle.reg_priv.specs.Grants.{Grant}
use Rattle.reg_priv.specs.May.{holds}

-- the privileges of those grants that are someone's
abbrev pub held_of : Live → Who → List Grant → List Privilege
held_of L who grants = map (λ (g : Grant). g.0) (filter (λ (g : Grant). holds L who g.1) grants)

-- a privilege is of the object's kind, and these give it, or all is given
abbrev pub fits : Object → Bool → List Privilege → Privilege → Bool
fits o all held p = is_of_kind (line_of p).on o && (all || list_any (λ q. gives q p) held)
