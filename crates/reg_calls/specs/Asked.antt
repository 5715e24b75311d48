-- What a message asks, by its path, its method and its caller, and whether it closes its
-- connection.
use Rattle.std.specs.Prelude.{ℕ, List, Bool, not, ◌||◌, Option, Some, None, codes, bytes_eq}
use Rattle.std.specs.Prelude.{if◌then◌else◌}
use Rattle.std.specs.Str.{is_utf8}
use Rattle.reg_http.specs.Routes.{path_of, route_of, method_of}
use Rattle.reg_http.specs.declared.call.Call.{Call}
use Rattle.reg_http.specs.declared.route.Route.{Route}
use Rattle.reg_calls.specs.declared.asked.Asked.{Asked}
use Rattle.reg_calls.specs.declared.asked.Asked.TheVariants.{NoRoute, NoMethod, NoCaller, Routed}

-- a message of a route: its method is looked at first, and then whether one caller is named
abbrev pub with_caller : Route → Option (List ℕ) → Asked
with_caller r None = NoCaller
with_caller r (Some by) = Routed r

abbrev pub asked_at : Route → Call → Asked
asked_at r call =
    if bytes_eq call.method (method_of r) then with_caller r call.caller else NoMethod r

-- a message whose path has this route, if it has one
abbrev pub asked_by : Option Route → Call → Asked
asked_by None call = NoRoute
asked_by (Some r) call = asked_at r call

-- the route of a target; a path that isn't UTF-8 has none
unfoldable pub route_in : List ℕ → Option Route
route_in target = if is_utf8 (path_of target) then route_of (path_of target) else None

-- what a message asks
unfoldable pub asked_of : Call → Asked
asked_of call = asked_by (route_in call.target) call

-- GET or POST
abbrev pub is_known : List ℕ → Bool
is_known method = bytes_eq method (codes "GET") || bytes_eq method (codes "POST")

-- the connection closes after the response where the message says so, and where its route hasn't
-- its method and it is neither GET nor POST
abbrev pub closes_by : Asked → Call → Bool
closes_by (NoMethod r) call = call.close || not (is_known call.method)
closes_by _ call = call.close

unfoldable pub closes : Call → Bool
closes call = closes_by (asked_of call) call
