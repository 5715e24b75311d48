-- What a message of a route asks of the service, or why it is refused in reading.
use Rattle.std.specs.Prelude.{ℕ, List, None, Result, Ok, Err, codes, if◌then◌else◌}
use Rattle.std.specs.Str.{is_utf8}
use Rattle.reg_terms.specs.declared.refusal.Refusal.{Refusal}
use Rattle.reg_terms.specs.declared.refusal.Refusal.TheVariants.{BadRequest}
use Rattle.reg_terms.specs.declared.request.Request.{Request}
use Rattle.reg_terms.specs.declared.request.Op.TheVariants as op
use Rattle.reg_http.specs.Parameters.{parameter_in, parameter_name, read_by}
use Rattle.reg_http.specs.Queries.{pairs}
use Rattle.reg_http.specs.Routes.{query_of}
use Rattle.reg_http.specs.declared.call.Call.{Call}
use Rattle.reg_http.specs.declared.parameters.Parameters.{Parameters}
use Rattle.reg_http.specs.declared.route.Route.{Route}
use Rattle.reg_http.specs.declared.route.Route.TheVariants as route
use Rattle.reg_json.specs.Fields.{extension_from}
use Rattle.reg_json.specs.Reading.{body_reading_of}
use Rattle.reg_json.specs.Steps.{◌>>=◌}
use Rattle.reg_calls.specs.Queries.{query_by}

-- what a target tells beside its route, or the refusal of a field
abbrev pub field_refused : Result Parameters (List ℕ) → Result Parameters Refusal
field_refused (Ok parameters) = Ok parameters
field_refused (Err field) = Err (BadRequest field)

-- the same, or the name of the field
unfoldable pub told_by : Route → List ℕ → Result Parameters (List ℕ)
told_by r target =
    if is_utf8 (parameter_in target) then read_by r (parameter_in target) (pairs (query_of target))
    else Err (parameter_name r)

abbrev pub parameters_of : Route → List ℕ → Result Parameters Refusal
parameters_of r target = field_refused (told_by r target)

-- a query of a caller, which has no key
abbrev pub query_request : List ℕ → Route → Parameters → Result Request Refusal
query_request by r parameters = do
  q ← query_by r parameters
  Ok (record { by = by; key = None; op = op.Query q })

-- the run of a job over the table that a body is, whatever its bytes; it has no key
abbrev pub load_request : List ℕ → List ℕ → Parameters → Result Request Refusal
load_request by body parameters = do
  job ← extension_from (codes "job") parameters.path
  Ok (record { by = by; key = None; op = op.Load job body })

-- what a caller asks by a body, or by what the target tells
abbrev pub asked_with : Route → List ℕ → List ℕ → Parameters → Result Request Refusal
asked_with route.Requests by body parameters = body_reading_of by body
asked_with route.Load by body parameters = load_request by body parameters
asked_with r by body parameters = query_request by r parameters

-- what a message of a route and a caller asks: first what the target tells is read
unfoldable pub reading_of : Route → List ℕ → Call → Result Request Refusal
reading_of r by call = do
  parameters ← parameters_of r call.target
  asked_with r by call.body parameters
