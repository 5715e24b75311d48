-- What the kept maps tell.
use Rattle.std.specs.Prelude.{ℕ, List, Option, option_map}
use Rattle.std.specs.Option.{option_or}
use Rattle.std.specs.BTreeMap.{get, get_by, get_by_text}
use Rattle.std.specs.Ordering.{nat_cmp}
use Rattle.std.specs.declared.cmp.Ordering.{Ordering}
use Rattle.reg_terms.specs.contracts.kinds.ObjectOrd.TheImpl as object_ord
use Rattle.reg_terms.specs.declared.kinds.Object.{Object}
use Rattle.reg_audit.specs.Lives.{first_life}
use Rattle.reg_audit.specs.declared.lives.Lives.{Lives}
use Rattle.reg_audit.specs.declared.departed.Departed.{Departed}
use Rattle.reg_audit.specs.declared.definitions.Definitions.{Definitions}

-- the order of objects: by kind, and then by number
abbrev pub object_cmp : Object → Object → Ordering
object_cmp = (object_ord.ghosts).cmp

-- the life of an object
abbrev pub life_in : Lives → Object → Option (ℕ × Option ℕ)
life_in lives o =
    option_or (option_map (λ m. (
      m,
      get_by (object_cmp o) lives.gone,
    )) (get_by (object_cmp o) lives.made)) (first_life o)

-- the last name of an object that is gone
abbrev pub name_in : Departed → Object → Option (List ℕ)
name_in departed o = get_by (object_cmp o) departed.names

-- the group that went last with a name
abbrev pub named_in : Departed → List ℕ → Option ℕ
named_in departed name = get_by_text departed.by_name name

-- the definition of which an attribute was made
abbrev pub defined_in : Definitions → ℕ → Option ℕ
defined_in definitions a = get nat_cmp definitions.made a
