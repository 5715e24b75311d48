use Rattle.std.proofs.Common.{◌==◌, ◌∙◌, sym}
use Rattle.reg_facts.proofs.Searched.{item_found, none_found}
use Rattle.reg_facts.proofs.numbered.row_by_id.Goals as goal

pub returns-in_err-place : goal.returns-in_err-place
returns-in_err-place g c = rw c.from_residual.ensures (none_found (λ row. g.R.Numbered.number_of row == c.args.id) c.args.rows.now (sym c.place_by_id.ensures ∙ c.in_err-place.was))

pub returns : goal.returns
returns g c = item_found (λ row. g.R.Numbered.number_of row == c.args.id) c.args.rows.now c.in_ok-place.place c.get.result c.get.ensures.lookup (sym c.place_by_id.ensures ∙ c.in_ok-place.was)
