use Rattle.std.proofs.Common.{◌∙◌, sym, ap}
use Rattle.reg_table.specs.Links.{links_of, without_link}
use Rattle.reg_table.proofs.Linking.{pair_eq, row_unlinked}
use Rattle.reg_table.proofs.linked_table.LinkedTable.remove.Goals as goal

-- the row's link is gone with it
pub invariant_of-self : goal.invariant_of-self
invariant_of-self g c =
    c.remove_link.ensures
    ∙ (ap (λ o. without_link g.R.Link.PartialEq.eq (pair_eq g.R.Group.PartialEq.eq g.R.Place.PartialEq.eq) o (c.args.group, c.args.place) c.self.inside.links) c.link.ensures
    ∙ (ap (without_link g.R.Link.PartialEq.eq (pair_eq g.R.Group.PartialEq.eq g.R.Place.PartialEq.eq) (g.R.LinkedRow.link_at c.args.group c.args.place) (c.args.group, c.args.place)) c.self.invariant
    ∙ (sym (row_unlinked g.R.Group.PartialEq.eq g.R.Place.PartialEq.eq g.R.Link.PartialEq.eq g.R.Row.group_of g.R.Row.place_of g.R.LinkedRow.link_at g.met.R.LinkedRow.link_alike c.args.group c.args.place c.self.inside.rows)
    ∙ ap (links_of g.R.Row.group_of g.R.Row.place_of g.R.LinkedRow.link_at) (sym c.remove.ensures.removed))))
