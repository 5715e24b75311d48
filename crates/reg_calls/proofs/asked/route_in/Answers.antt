use Rattle.std.proofs.Common.{None}
use Rattle.reg_http.specs.Routes.{path_of, route_of}
use Rattle.reg_calls.specs.Asked.{route_in}
use Rattle.reg_calls.proofs.Targets.{by_utf8}
use Rattle.reg_calls.proofs.asked.route_in.Goals as goal

-- what the table gives, by whether the path is UTF-8
pub returns : goal.returns
unfolding route_in
returns c = by_utf8 (path_of c.args.target.now) _ (route_of (path_of c.args.target.now)) None c.find.ensures.text c.find.ensures.no_text
