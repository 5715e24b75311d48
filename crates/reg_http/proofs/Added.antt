-- A route that is added to the table of routes is added as it is read.
use Rattle.std.proofs.Common.{◌≡◌, Result, Ok, Err}
use Rattle.matchit.specs.Rows.{RowsOf}
use Rattle.matchit.specs.Route.{Scan}
use Rattle.matchit.specs.Router.{RouteOf, InsertsRead}
use Rattle.matchit.specs.declared.error.InsertError.{InsertError}
use Rattle.reg_http.specs.declared.route.Route.{Route}
use Rattle.reg_http.specs.Routes.{added_read}

pub inserted : (x : Result Scan InsertError) (v : Route) (old new : RowsOf (RouteOf Route)) (r : Result (Unit {0}) InsertError) (u : Unit {0})
    → r ≡ Ok u → InsertsRead x v old new r → new ≡ added_read old x v
inserted (Ok s) v old new (Ok w) u e h = h.1
inserted (Ok s) v old new (Err w) u e h = absurd (cc)
inserted (Err s) v old new r u e h = h.0
