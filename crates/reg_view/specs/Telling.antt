-- What a refusal may name: what the query names, the root folder, and the definition of an
-- attribute that the caller sees.
use Rattle.std.specs.Prelude.{◌≡◌, ⊤, ◌||◌, ◌++◌, ℕ, List, [], ◌∷◌, Bool, true, Some, None, Result}
use Rattle.std.specs.Prelude.{Ok, Err, codes}
use Rattle.std.specs.List.{list_any}
use Rattle.std.specs.Str.{bytes_eq}
use Rattle.reg_base.specs.Entities.{entity_of}
use Rattle.reg_base.specs.declared.entity.Entity.{Entity}
use Rattle.reg_base.specs.declared.entity.Entity.TheVariants as entity
use Rattle.reg_terms.specs.declared.refusal.Refusal.{Refusal}
use Rattle.reg_terms.specs.declared.refusal.Refusal.TheVariants.{NotFound, Denied}
use Rattle.reg_terms.specs.declared.query.Query.{Query}
use Rattle.reg_terms.specs.declared.query.Query.TheVariants as query
use Rattle.reg_facts.specs.Children.{is_among}
use Rattle.reg_view.specs.View.{View, AttributeSeen}

-- the name or text that an entity has
abbrev pub entity_names : Entity → List (List ℕ)
entity_names (entity.Person text) = text ∷ []
entity_names (entity.Group name) = name ∷ []
entity_names entity.System = []
entity_names entity.Everyone = []

-- an object's text, and the name of the group whose entity it is
abbrev pub object_names : List ℕ → List (List ℕ)
object_names text = text ∷ (elim (entity_of text) [ None ↦ [] | Some e ↦ entity_names e ])

-- what a query names
abbrev pub names_of : Query → List (List ℕ)
names_of (query.GroupGet group) = group ∷ []
names_of (query.FolderList folder) = folder ∷ []
names_of (query.Members group at) = group ∷ []
names_of (query.Rows group) = group ∷ []
names_of (query.Groups subject at) = entity_names subject
names_of (query.Grants object at) = object_names object
names_of (query.May object e at) = object_names object ++ entity_names e
names_of (query.Attributes object at) = object_names object
names_of (query.History group) = group ∷ []
names_of (query.Log consumer max) = consumer ∷ []
names_of query.Admin = []

-- an attribute that the caller sees is of this definition
abbrev pub is_definition : View → List ℕ → Bool
is_definition v text = list_any (λ (a : AttributeSeen). bytes_eq a.definition text) v.attributes

-- a refusal tells nothing else
abbrev pub TellsOf : View → List (List ℕ) → Refusal → Type 0
TellsOf v names (NotFound text) = is_among text names ≡ true
TellsOf v names (Denied text p) =
    (is_among text names || (bytes_eq text (codes ":") || is_definition v text)) ≡ true
TellsOf v names _ = ⊤

-- a refusal, if it is one, does so
abbrev pub IfRefused : {A : Type 0} → (Refusal → Type 0) → Result A Refusal → Type 0
IfRefused P (Ok a) = ⊤
IfRefused P (Err refusal) = P refusal
