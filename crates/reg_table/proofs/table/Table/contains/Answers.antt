use Rattle.std.proofs.Common.{◌∙◌}
use Rattle.reg_table.proofs.Rows.{row_stands}
use Rattle.reg_table.proofs.table.Table.contains.Goals as goal

-- a key is found exactly for a row
pub returns : goal.returns
returns g c =
    c.contains_key.ensures
    ∙ row_stands g.R.Row.group_of g.R.Row.place_of (record { group_is = g.met.R.Group.Ord.matches_eq; place_is = g.met.R.Place.Ord.matches_eq; group_total = g.met.R.Group.Ord.total; place_total = g.met.R.Place.Ord.total })
    c.self.inside.rows c.self.inside.next c.args.self.now c.args.group c.args.place c.self.invariant c.self.view_is
