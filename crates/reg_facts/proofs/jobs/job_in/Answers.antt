use Rattle.std.proofs.Common.{◌∙◌, sym}
use Rattle.std.specs.Str.{bytes_eq}
use Rattle.reg_facts.proofs.Searched.{item_found, none_found}
use Rattle.reg_facts.proofs.jobs.job_in.Goals as goal

pub returns-in_err-place : goal.returns-in_err-place
returns-in_err-place c = rw c.from_residual.ensures (none_found (λ row. bytes_eq row.name c.args.name.now) c.args.rows.now (sym c.job_place.ensures ∙ c.in_err-place.was))

pub returns : goal.returns
returns c = item_found (λ row. bytes_eq row.name c.args.name.now) c.args.rows.now c.in_ok-place.place c.get.result c.get.ensures.lookup (sym c.job_place.ensures ∙ c.in_ok-place.was)
