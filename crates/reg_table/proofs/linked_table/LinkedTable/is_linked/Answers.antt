use Rattle.std.proofs.Common.{◌∙◌, ap}
use Rattle.std.specs.List.{list_any}
use Rattle.reg_table.specs.declared.linked.Linked.{Linked}
use Rattle.reg_table.specs.Links.{has_link}
use Rattle.reg_table.proofs.Linking.{links_any}
use Rattle.reg_table.proofs.linked_table.LinkedTable.is_linked.Goals as goal

-- a link stands exactly where a row has it
pub returns : goal.returns
returns g c =
    c.has_rows.ensures
    ∙ (ap (list_any (λ (x : Linked _ _). g.R.Link.PartialEq.eq x.link c.args.link)) c.self.invariant
    ∙ (links_any g.R.Group.PartialEq.eq g.R.Place.PartialEq.eq g.R.Link.PartialEq.eq g.R.Row.group_of g.R.Row.place_of g.R.LinkedRow.link_at c.args.link c.self.inside.rows
    ∙ ap (list_any (has_link g.R.Link.PartialEq.eq g.R.Row.group_of g.R.Row.place_of g.R.LinkedRow.link_at c.args.link)) c.self.view_is))
