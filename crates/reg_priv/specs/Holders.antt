-- Grants in order: by the privilege's code, then everyone, persons by id, groups by id.
use Rattle.std.specs.Prelude.{ℕ, List, [], ◌∷◌}
use Rattle.std.specs.BTreeSet.{insert_key}
use Rattle.std.specs.Ordering.{nat_cmp, ordering_then}
use Rattle.std.specs.declared.cmp.Ordering.{Ordering}
use Rattle.reg_terms.specs.declared.kinds.Object.{Object}
use Rattle.reg_terms.specs.declared.kinds.Holder.{Holder}
use Rattle.reg_terms.specs.declared.kinds.Holder.TheVariants as holder
use Rattle.reg_terms.specs.Privileges.{code}
use Rattle.reg_facts.specs.Lists.{Lists}
use Rattle.reg_priv.specs.Grants.{Grant, grants}

-- everyone, then persons, then groups
abbrev pub kind_of : Holder → ℕ
kind_of holder.Everyone = 0
kind_of (holder.Person s) = 1
kind_of (holder.Group g) = 2

-- the id of a holder, and 0 of everyone
abbrev pub id_of : Holder → ℕ
id_of holder.Everyone = 0
id_of (holder.Person s) = s
id_of (holder.Group g) = g

-- where a grant stands in the order: the privilege's code, then the holder
abbrev pub place_of : Grant → ℕ × ℕ × ℕ
place_of g = (code g.0, kind_of g.1, id_of g.1)

-- the order of such places
abbrev pub place_cmp : ℕ × ℕ × ℕ → ℕ × ℕ × ℕ → Ordering
place_cmp a b = ordering_then (ordering_then (nat_cmp a.0 b.0) (nat_cmp a.1 b.1)) (nat_cmp a.2 b.2)

-- the order of grants
abbrev pub grant_cmp : Grant → Grant → Ordering
grant_cmp a b = place_cmp (place_of a) (place_of b)

-- grants put one after another at their places, each once
abbrev pub ordered_into : List Grant → List Grant → List Grant
ordered_into found [] = found
ordered_into found (g ∷ gs) = ordered_into (insert_key grant_cmp found g) gs

-- the grants on an object, direct and inherited, in order and each once
abbrev pub holders : Object → Lists → List Grant
holders o f = ordered_into [] (grants o f)
