use Rattle.std.proofs.Common.{◌≡◌, ◌∙◌, refl, sym, ap}
use Rattle.reg_table.specs.Links.{links_of, put_link}
use Rattle.reg_table.proofs.Linking.{pair_eq, row_relinked}
use Rattle.reg_table.proofs.linked_table.LinkedTable.replace.Goals as goal

-- the row's link stands in the place of the other's
pub invariant_of-self : goal.invariant_of-self
invariant_of-self g c =
    let key : (c.group.result, c.place.result) ≡ (g.R.Row.group_of c.args.row, g.R.Row.place_of c.args.row) = rw (c.group.ensures, c.place.ensures) refl in
    c.replace_link.ensures
    ∙ (ap (λ o. put_link g.R.Link.PartialEq.eq (pair_eq g.R.Group.PartialEq.eq g.R.Place.PartialEq.eq) o (c.group.result, c.place.result) c.self.inside.links) c.link.ensures
    ∙ (ap (λ k. put_link g.R.Link.PartialEq.eq (pair_eq g.R.Group.PartialEq.eq g.R.Place.PartialEq.eq) (g.R.LinkedRow.link_at k.0 k.1) k c.self.inside.links) key
    ∙ (ap (put_link g.R.Link.PartialEq.eq (pair_eq g.R.Group.PartialEq.eq g.R.Place.PartialEq.eq) (g.R.LinkedRow.link_at (g.R.Row.group_of c.args.row) (g.R.Row.place_of c.args.row)) (g.R.Row.group_of c.args.row, g.R.Row.place_of c.args.row)) c.self.invariant
    ∙ (sym (row_relinked g.R.Group.PartialEq.eq g.R.Place.PartialEq.eq g.R.Link.PartialEq.eq g.R.Row.group_of g.R.Row.place_of g.R.LinkedRow.link_at g.met.R.LinkedRow.link_alike c.args.row c.self.inside.rows)
    ∙ ap (links_of g.R.Row.group_of g.R.Row.place_of g.R.LinkedRow.link_at) (sym c.replace.ensures.replaced)))))
