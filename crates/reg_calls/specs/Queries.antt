-- The queries of the routes that are asked by GET, by what a target tells.
use Rattle.std.specs.Prelude.{ℕ, List, [], Bool, true, false, ◌&&◌, nat_le, Option, Some, None}
use Rattle.std.specs.Prelude.{Result, Ok, Err, codes, unwrap_or}
use Rattle.reg_terms.specs.declared.refusal.Refusal.{Refusal}
use Rattle.reg_terms.specs.declared.refusal.Refusal.TheVariants.{BadRequest}
use Rattle.reg_terms.specs.declared.query.Query.{Query}
use Rattle.reg_terms.specs.declared.query.Query.TheVariants as query
use Rattle.reg_http.specs.declared.parameters.Parameters.{Parameters}
use Rattle.reg_http.specs.declared.route.Route.{Route}
use Rattle.reg_http.specs.declared.route.Route.TheVariants as route
use Rattle.reg_json.specs.Steps.{◌>>=◌}
use Rattle.reg_json.specs.Fields.{name_from, folder_from, extension_from, object_from, entity_from}
use Rattle.reg_json.specs.Fields.{moment_from}

-- a number that is in its range
abbrev pub ensured_number : Bool → List ℕ → ℕ → Result ℕ Refusal
ensured_number true field n = Ok n
ensured_number false field n = Err (BadRequest field)

-- the most entries that are asked for, from 1 to 1,000; a target without the number is refused
-- before
abbrev pub number_from : List ℕ → Option ℕ → Result ℕ Refusal
number_from field None = Err (BadRequest field)
number_from field (Some n) = ensured_number (nat_le 1 n && nat_le n 1000) field n

-- the entity that is asked for; a target without one is refused before
abbrev pub entity_text : Parameters → List ℕ
entity_text p = unwrap_or p.entity []

-- the query that a route asks, or why it is refused
abbrev pub query_by : Route → Parameters → Result Query Refusal
query_by route.Group p = do
  group ← name_from (codes "group") p.path
  Ok (query.GroupGet group)
query_by route.Members p = do
  group ← name_from (codes "group") p.path
  at ← moment_from (codes "at") p.at
  Ok (query.Members group at)
query_by route.Rows p = do
  group ← name_from (codes "group") p.path
  Ok (query.Rows group)
query_by route.History p = do
  group ← name_from (codes "group") p.path
  Ok (query.History group)
query_by route.Folder p = do
  folder ← folder_from (codes "folder") p.path
  Ok (query.FolderList folder)
query_by route.Groups p = do
  subject ← entity_from (codes "subject") p.path
  at ← moment_from (codes "at") p.at
  Ok (query.Groups subject at)
query_by route.Grants p = do
  object ← object_from (codes "object") p.path
  at ← moment_from (codes "at") p.at
  Ok (query.Grants object at)
query_by route.Privileges p = do
  object ← object_from (codes "object") p.path
  entity ← entity_from (codes "entity") (entity_text p)
  at ← moment_from (codes "at") p.at
  Ok (query.May object entity at)
query_by route.Attributes p = do
  object ← object_from (codes "object") p.path
  at ← moment_from (codes "at") p.at
  Ok (query.Attributes object at)
query_by route.Log p = do
  consumer ← extension_from (codes "consumer") p.path
  max ← number_from (codes "max") p.max
  Ok (query.Log consumer max)
query_by route.Admin p = Ok query.Admin
query_by _ p = Err (BadRequest [])
