-- What the code's maps and sets hold, and what is found by them.
use Rattle.std.specs.Prelude.{ℕ, ◌+◌, ◌++◌, List, [], ◌∷◌, Option, map}
use Rattle.std.specs.HashMap.{get_by}
use Rattle.std.specs.Str.{bytes_eq}
use Rattle.reg_base.specs.NameParts.{extension_of}
use Rattle.reg_terms.specs.declared.event.Event.{Event}
use Rattle.reg_terms.specs.declared.event.Event.TheVariants.{GroupMade}
use Rattle.reg_terms.specs.declared.kinds.Object.TheVariants.{Group}
use Rattle.reg_terms.specs.declared.rows.GrantRow.{GrantRow}
use Rattle.reg_facts.specs.Edits.{the_id}
use Rattle.reg_base.specs.declared.entity.Entity.{Entity}
use Rattle.reg_facts.specs.Events.{grants_added, new_groups_grants}
use Rattle.reg_facts.specs.Lists.{Lists}
use Rattle.reg_facts.specs.Naming.{home_id}
use Rattle.reg_load.specs.declared.created.CreatedNames.{CreatedNames}

-- the number that an index has for a name
unfoldable pub number_of : CreatedNames → List ℕ → Option ℕ
number_of names text = get_by (λ k. bytes_eq text k.now) names.numbers

-- a grant, written on a group
abbrev pub on_group : ℕ → GrantRow → GrantRow
on_group g row = record row { object = Group g }

-- a group of a number and a name, in the folder of the name, with such grants on it
abbrev pub numbered_group : ℕ → List ℕ → Lists → List GrantRow → List Event
numbered_group g name f grants =
    GroupMade (record {
      id = g;
      folder = the_id (home_id name f);
      extension = extension_of name;
      display = [];
    }) ∷ grants_added (map (on_group g) grants)

-- groups of such names, numbered one after another
abbrev pub numbered_groups : ℕ → List (List ℕ) → Lists → List GrantRow → List Event
numbered_groups next [] f grants = []
numbered_groups next (name ∷ names) f grants =
    numbered_group next name f grants ++ numbered_groups (next + 1) names f grants

-- the grants on the first of some groups that are made
abbrev pub first_grants : Entity → List (List ℕ) → Lists → List GrantRow
first_grants by [] f = []
first_grants by (name ∷ names) f = new_groups_grants by name f
