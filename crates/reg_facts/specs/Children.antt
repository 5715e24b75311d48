-- The names of what stands directly in a folder, kind by kind.
use Rattle.std.specs.Prelude.{ℕ, ◌==◌, List, [], ◌∷◌, ◌++◌, Bool, map, if◌then◌else◌}
use Rattle.std.specs.List.{list_any}
use Rattle.std.specs.Str.{bytes_eq}
use Rattle.std.specs.Cmp.Lexicographic.{slice_cmp}
use Rattle.std.specs.Ordering.{nat_cmp}
use Rattle.reg_table.specs.Keyed.{in_order}
use Rattle.reg_terms.specs.declared.kinds.Object.{Object}
use Rattle.reg_terms.specs.declared.kinds.Object.TheVariants.{Folder, Group, Def, Attr, Subject}
use Rattle.reg_facts.specs.declared.child_names.ChildNames.{ChildNames}
use Rattle.reg_facts.specs.Lists.{Lists}
use Rattle.reg_facts.specs.Naming.{Placed, placed_folders, placed_group, placed_definition}
use Rattle.reg_facts.specs.Naming.{placed_attribute, name_in}

-- the extensions of those that stand directly in a folder
abbrev pub extensions_in : ℕ → List Placed → List (List ℕ)
extensions_in d [] = []
extensions_in d (p ∷ ps) =
    if p.folder == d then p.extension ∷ extensions_in d ps else extensions_in d ps

-- texts in the order of their bytes, each once
abbrev pub by_bytes : List (List ℕ) → List (List ℕ)
by_bytes texts = in_order (slice_cmp nat_cmp) texts

-- a text is among some
abbrev pub is_among : List ℕ → List (List ℕ) → Bool
is_among text texts = list_any (λ t. bytes_eq t text) texts

-- the names of those that stand directly in the folder of this name, in the order of their bytes
abbrev pub names_in : ℕ → List ℕ → List Placed → List (List ℕ)
names_in d home ps = map (name_in home) (by_bytes (extensions_in d ps))

-- the names of all that stands directly in the folder of this name
abbrev pub child_names : ℕ → List ℕ → Lists → ChildNames
child_names d home f = record {
  attributes = names_in d home (map placed_attribute f.attributes);
  definitions = names_in d home (map placed_definition f.definitions);
  folders = names_in d home (placed_folders f.folders);
  groups = names_in d home (map placed_group f.groups);
}

-- no name
abbrev pub no_names : ChildNames
no_names = record { attributes = []; definitions = []; folders = []; groups = [] }

-- the name of an object put behind those of its kind
abbrev pub with_name : Object → List ℕ → ChildNames → ChildNames
with_name (Folder d) name names = record names { folders = names.folders ++ name ∷ [] }
with_name (Group g) name names = record names { groups = names.groups ++ name ∷ [] }
with_name (Def a) name names = record names { definitions = names.definitions ++ name ∷ [] }
with_name (Attr a) name names = record names { attributes = names.attributes ++ name ∷ [] }
with_name (Subject s) name names = names

-- the names of objects by their extensions, put one after another
abbrev pub with_names : {K : Type 0} → (K → List ℕ) → List ℕ → List (K × Object) → ChildNames
    → ChildNames
with_names bytes home [] names = names
with_names bytes home (e ∷ es) names =
    with_names bytes home es (with_name e.1 (name_in home (bytes e.0)) names)
