use Rattle.std.proofs.Common.{◌∙◌, sym, ◌==◌}
use Rattle.reg_facts.proofs.Searched.{removed, unremoved}
use Rattle.reg_facts.proofs.numbered.remove_by_id.Goals as goal

-- the row of this id is taken away
pub returns-in-Some : goal.returns-in-Some
returns-in-Some g c = c.remove.ensures.items ∙ removed g.R.Numbered.number_of c.args.id c.args.rows.now.items c.in-Some.place c.remove.result c.requires (rw c.as_slice.ensures.value at (sym c.place_by_id.ensures ∙ c.in-Some.is))

-- no row has this id
pub returns-in_default : goal.returns-in_default
returns-in_default g c = unremoved (λ row. g.R.Numbered.number_of row == c.args.id) c.args.rows.now.items (rw c.as_slice.ensures.value at (sym c.place_by_id.ensures ∙ c.in_default.is))
