-- What a target tells beside its route.
use Rattle.std.specs.Prelude.{ℕ, List, [], Option, Some, None, Result, Ok, Err, codes}
use Rattle.std.specs.Prelude.{option_and_then, ◌==◌}
use Rattle.std.specs.List.{before_first, after_first}
use Rattle.percent_encoding.specs.Percent.{percent_decode}
use Rattle.reg_http.specs.declared.query.Pair.{Pair}
use Rattle.reg_http.specs.declared.parameters.Parameters.{Parameters}
use Rattle.reg_http.specs.declared.route.Route.{Route}
use Rattle.reg_http.specs.declared.route.Route.TheVariants.{Requests, Load, Group, Members, Rows}
use Rattle.reg_http.specs.declared.route.Route.TheVariants.{History, Folder, Groups, Grants}
use Rattle.reg_http.specs.declared.route.Route.TheVariants.{Privileges, Attributes, Log, Admin}
use Rattle.reg_http.specs.Routes.{path_of}
use Rattle.reg_http.specs.Queries.{wrong_key, value_of, number_of}

-- what stands between the second and the third slash
abbrev pub second_segment : List ℕ → List ℕ
second_segment path =
    before_first (λ byte. byte
    == 47) (after_first (λ byte. byte == 47) (after_first (λ byte. byte == 47) path))

-- what the parameter of a target's path stands for; a `+` stays
unfoldable pub parameter_in : List ℕ → List ℕ
parameter_in target = percent_decode (second_segment (path_of target))

-- the name of a route's parameter
abbrev pub parameter_name : Route → List ℕ
parameter_name Requests = []
parameter_name Load = codes "job"
parameter_name Group = codes "group"
parameter_name Members = codes "group"
parameter_name Rows = codes "group"
parameter_name History = codes "group"
parameter_name Folder = codes "folder"
parameter_name Groups = codes "subject"
parameter_name Grants = codes "object"
parameter_name Privileges = codes "object"
parameter_name Attributes = codes "object"
parameter_name Log = codes "consumer"
parameter_name Admin = []

-- the parameters by the pairs of a query
abbrev pub parameters_by : List ℕ → List Pair → Parameters
parameters_by path found = record {
  path = path;
  at = value_of (codes "at") found;
  entity = value_of (codes "entity") found;
  max = option_and_then number_of (value_of (codes "max") found);
}

-- the name of what a route needs and didn't get
abbrev pub missing_entity : Option (List ℕ) → Option (List ℕ)
missing_entity None = Some (codes "entity")
missing_entity (Some entity) = None

abbrev pub missing_max : Option ℕ → Option (List ℕ)
missing_max None = Some (codes "max")
missing_max (Some max) = None

abbrev pub missing : Route → Parameters → Option (List ℕ)
missing Privileges parameters = missing_entity parameters.entity
missing Log parameters = missing_max parameters.max
missing _ parameters = None

-- a field that is refused goes before what else is read
abbrev pub unless : Option (List ℕ) → Result Parameters (List ℕ) → Result Parameters (List ℕ)
unless (Some field) read = Err field
unless None read = read

-- the parameters, or the field that is refused: a wrong key, and then one that is missing
unfoldable pub read_by : Route → List ℕ → List Pair → Result Parameters (List ℕ)
read_by route path found =
    let parameters = parameters_by path found in
    unless (wrong_key route [] found) (unless (missing route parameters) (Ok parameters))
