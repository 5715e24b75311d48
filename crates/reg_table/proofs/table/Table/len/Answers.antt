use Rattle.std.proofs.Common.{◌∙◌, sym, ap, length}
use Rattle.std.proofs.lemmas.Map.Entries.{length-values_of}
use Rattle.reg_table.specs.Spots.{key_cmp, key_of}
use Rattle.reg_table.proofs.Found.{rows_length}
use Rattle.reg_table.proofs.Rows.{Laws, key_total}
use Rattle.reg_table.proofs.table.Table.len.Goals as goal

-- each entry is a row
pub returns : goal.returns
returns g c =
    let laws : Laws _ _ _ _ = record { group_is = g.met.R.Group.Ord.matches_eq; place_is = g.met.R.Place.Ord.matches_eq; group_total = g.met.R.Group.Ord.total; place_total = g.met.R.Place.Ord.total } in
    c.len.ensures.len
    ∙ (sym (length-values_of c.self.inside.rows.entries)
    ∙ (sym (rows_length (key_cmp g.R.Group.Ord.cmp g.R.Place.Ord.cmp) (key_of g.R.Row.group_of g.R.Row.place_of) (key_total laws) c.self.inside.rows c.self.inside.next c.self.invariant)
    ∙ ap length c.self.view_is))
