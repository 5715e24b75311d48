use Rattle.std.proofs.Common.{◌≡◌, ◌∙◌, ◌++◌, refl, sym, ap}
use Rattle.reg_table.specs.Links.{links_of, link_list, without_link}
use Rattle.reg_table.proofs.Keys.{itself}
use Rattle.reg_table.proofs.Linking.{pair_eq, pair_same, link_back, links_push, key_free}
use Rattle.reg_table.proofs.linked_table.LinkedTable.push.Goals as goal

-- no row has the key
pub add_link-requires : goal.add_link-requires
add_link-requires g c =
    key_free g.R.Group.PartialEq.eq g.R.Place.PartialEq.eq g.R.Link.PartialEq.eq g.R.Row.group_of g.R.Row.place_of g.R.LinkedRow.link_at c.link-link.result c.group.result c.place.result c.args.row
    c.self.inside.rows c.args.self.now c.self.inside.links c.group.ensures c.place.ensures c.self.view_is c.self.invariant c.requires.free

-- the link stands behind the others
pub invariant_of-self-in-Ok : goal.invariant_of-self-in-Ok
invariant_of-self-in-Ok g c =
    let key : (c.group.result, c.place.result) ≡ (g.R.Row.group_of c.args.row, g.R.Row.place_of c.args.row) = rw (c.group.ensures, c.place.ensures) refl in
    c.in_ok-add_link.ensures.added
    ∙ (ap (λ o. c.self.inside.links ++ link_list o (c.group.result, c.place.result)) c.link-link.ensures
    ∙ (ap (λ k. c.self.inside.links ++ link_list (g.R.LinkedRow.link_at k.0 k.1) k) key
    ∙ (ap (λ ls. ls ++ link_list (g.R.LinkedRow.link_at (g.R.Row.group_of c.args.row) (g.R.Row.place_of c.args.row)) (g.R.Row.group_of c.args.row, g.R.Row.place_of c.args.row)) c.self.invariant
    ∙ (sym (links_push g.R.Group.PartialEq.eq g.R.Place.PartialEq.eq g.R.Link.PartialEq.eq g.R.Row.group_of g.R.Row.place_of g.R.LinkedRow.link_at c.self.inside.rows c.args.row)
    ∙ ap (links_of g.R.Row.group_of g.R.Row.place_of g.R.LinkedRow.link_at) (sym c.in-Ok.ensures.added)))))

-- the link is taken away again
pub invariant_of-self-in-Err : goal.invariant_of-self-in-Err
invariant_of-self-in-Err g c =
    c.remove_link.ensures
    ∙ (ap (without_link g.R.Link.PartialEq.eq (pair_eq g.R.Group.PartialEq.eq g.R.Place.PartialEq.eq) c.link-link.result (c.group.result, c.place.result)) c.in_ok-add_link.ensures.added
    ∙ (link_back g.R.Link.PartialEq.eq (pair_eq g.R.Group.PartialEq.eq g.R.Place.PartialEq.eq) (λ l. g.met.R.Link.Ord.matches_eq l l ∙ itself g.R.Link.Ord.cmp g.met.R.Link.Ord.total l)
    (pair_same g.R.Group.PartialEq.eq g.R.Place.PartialEq.eq (λ x. g.met.R.Group.Ord.matches_eq x x ∙ itself g.R.Group.Ord.cmp g.met.R.Group.Ord.total x) (λ x. g.met.R.Place.Ord.matches_eq x x ∙ itself g.R.Place.Ord.cmp g.met.R.Place.Ord.total x))
    c.link-link.result (c.group.result, c.place.result) c.self.inside.links
    (key_free g.R.Group.PartialEq.eq g.R.Place.PartialEq.eq g.R.Link.PartialEq.eq g.R.Row.group_of g.R.Row.place_of g.R.LinkedRow.link_at c.link-link.result c.group.result c.place.result c.args.row
    c.self.inside.rows c.args.self.now c.self.inside.links c.group.ensures c.place.ensures c.self.view_is c.self.invariant c.requires.free)
    ∙ (c.self.invariant ∙ ap (links_of g.R.Row.group_of g.R.Row.place_of g.R.LinkedRow.link_at) (sym c.in-Err.ensures.err))))
