use Rattle.std.proofs.Common.{Err}
use Rattle.reg_http.specs.Parameters.{parameter_in, parameter_name, read_by}
use Rattle.reg_http.specs.Queries.{pairs}
use Rattle.reg_http.specs.Routes.{query_of}
use Rattle.reg_calls.specs.Reading.{told_by}
use Rattle.reg_calls.proofs.Targets.{by_utf8}
use Rattle.reg_calls.proofs.reading.told_by.Goals as goal

-- what is read, by whether the parameter of the path is UTF-8
pub returns : goal.returns
unfolding told_by
returns c = by_utf8 (parameter_in c.args.target.now) _ (read_by c.args.route (parameter_in c.args.target.now) (pairs (query_of c.args.target.now))) (Err (parameter_name c.args.route)) c.in_ok-told.ensures.text c.in_ok-told.ensures.no_text
