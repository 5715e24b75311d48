use Rattle.reg_http.proofs.PathLemmas.{path_of_route}
use Rattle.reg_http.proofs.Founds.{route_found}
use Rattle.reg_http.proofs.paths.paths_are_of_routes.Goals as goal

pub returns-clause-own : goal.returns-clause-own
returns-clause-own c = path_of_route

pub returns-clause-found : goal.returns-clause-found
returns-clause-found c = λ path part route. route_found route part path
