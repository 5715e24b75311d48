-- The table of routes, as `matchit` keeps it.
use Rattle.std.specs.Prelude.{ℕ, List, [], Result, Ok, Err, Option, codes, option_map, ◌==◌}
use Rattle.std.specs.List.{before_first, after_first}
use Rattle.matchit.specs.Rows.{RowsOf}
use Rattle.matchit.specs.Order.{placed}
use Rattle.matchit.specs.Route.{Scan, parse_route}
use Rattle.matchit.specs.Router.{RouteOf, route_from}
use Rattle.matchit.specs.Seek.{first}
use Rattle.matchit.specs.declared.error.InsertError.{InsertError}
use Rattle.reg_http.specs.declared.route.Route.{Route}
use Rattle.reg_http.specs.declared.route.Route.TheVariants.{Requests, Load, Group, Members, Rows}
use Rattle.reg_http.specs.declared.route.Route.TheVariants.{History, Folder, Groups, Grants}
use Rattle.reg_http.specs.declared.route.Route.TheVariants.{Privileges, Attributes, Log, Admin}

-- the rows of a router
abbrev pub Table : Type 0
Table = RowsOf (RouteOf Route)

abbrev pub added_read : Table → Result Scan InsertError → Route → Table
added_read rows (Ok s) route = placed (s.pattern, route_from s route) rows
added_read rows (Err e) route = rows

-- the rows with one more route
unfoldable pub added : Table → List ℕ → Route → Table
added rows pattern route = added_read rows (parse_route pattern) route

-- with the routes on groups and folders
unfoldable pub with_groups : Table → Table
with_groups rows =
    added (added (added (added (added rows
    (codes "/groups/{group}") Group)
    (codes "/groups/{group}/members") Members)
    (codes "/groups/{group}/rows") Rows)
    (codes "/groups/{group}/history") History)
    (codes "/folders/{folder}") Folder

-- with the routes on subjects and objects
unfoldable pub with_objects : Table → Table
with_objects rows =
    added (added (added (added rows
    (codes "/subjects/{subject}/groups") Groups)
    (codes "/objects/{object}/grants") Grants)
    (codes "/objects/{object}/privileges") Privileges)
    (codes "/objects/{object}/attributes") Attributes

-- with the other routes
unfoldable pub with_others : Table → Table
with_others rows =
    added (added (added (added rows
    (codes "/requests") Requests)
    (codes "/jobs/{job}/load") Load)
    (codes "/consumers/{consumer}/log") Log)
    (codes "/admin") Admin

-- the routes
abbrev pub table : Table
table = with_others (with_objects (with_groups []))

-- a target's path, and its query
abbrev pub path_of : List ℕ → List ℕ
path_of target = before_first (λ byte. byte == 63) target

abbrev pub query_of : List ℕ → List ℕ
query_of target = after_first (λ byte. byte == 63) target

-- the route of a path
abbrev pub route_of : List ℕ → Option Route
route_of path = option_map (λ row. row.value) (first table path)

-- the method of a route
abbrev pub method_of : Route → List ℕ
method_of Requests = codes "POST"
method_of Load = codes "POST"
method_of _ = codes "GET"
