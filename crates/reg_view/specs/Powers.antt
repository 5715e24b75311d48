-- What someone could do with an object at a moment: judged by the grants, the memberships and the
-- wheel group of then.
use Rattle.std.specs.Prelude.{ℕ, ◌&&◌, ◌||◌, List, [], Bool, true, filter, if◌then◌else◌}
use Rattle.reg_base.specs.declared.privilege.Privilege.{Privilege}
use Rattle.reg_terms.specs.Kinds.{is_of_kind}
use Rattle.reg_terms.specs.Privileges.{all_privileges, line_of}
use Rattle.reg_terms.specs.declared.kinds.Object.{Object}
use Rattle.reg_facts.specs.Lists.{Lists}
use Rattle.reg_facts.specs.Sound.{has_subject}
use Rattle.reg_effect.specs.declared.live.Live.{Live}
use Rattle.reg_priv.specs.declared.who.Who.{Who}
use Rattle.reg_priv.specs.declared.who.Who.TheVariants as who
use Rattle.reg_priv.specs.May.{granted, is_root, judged}
use Rattle.reg_current.specs.Live.{live}
use Rattle.reg_machine.specs.Standing.{stands}

-- whether someone stands; the registry itself always does
abbrev pub who_stands : Who → Lists → Bool
who_stands who.System f = true
who_stands (who.Person s) f = has_subject s f.subjects

-- whether someone has a privilege by the grants on an object: one of its kind, and by root or by a
-- grant
abbrev pub may_on : Live → Lists → Who → Object → Privilege → Bool
may_on L f c o p = is_of_kind (line_of p).on o && (is_root L f c || granted L f c o p)

-- what someone could do with an object at a moment at which the facts were F, by code; nothing
-- where either didn't stand then. Of an attribute the grants on its definition count, which never
-- is another
abbrev pub powers_then : Lists → ℕ → Lists → Who → Object → List Privilege
powers_then f at F c o =
    if stands o F && who_stands c F then filter (may_on (live at F) F c (judged o f)) all_privileges
    else []
