use Rattle.std.proofs.Common.{◌≡◌, ◌∙◌, sym, ap, filter, not, false}
use Rattle.std.specs.List.{list_any}
use Rattle.reg_table.specs.Keyed.{is_of, is_row}
use Rattle.reg_table.proofs.Groups.{group_over, group_gone}
use Rattle.reg_table.proofs.Lists.{fewer}
use Rattle.reg_table.proofs.linked_table.LinkedTable.remove_group.Goals as goal

-- a row less
pub loop-place-smaller : goal.loop-place-smaller
loop-place-smaller g c =
    let test = is_row g.R.Group.PartialEq.eq g.R.Place.PartialEq.eq g.R.Row.group_of g.R.Row.place_of c.args.group c.in-Some.place in
    rw c.let_go.ensures (fewer test c.loop-place.self (rw c.in-Some.is at c.first_place.ensures))

-- of the group
pub loop-place-preserved : goal.loop-place-preserved
loop-place-preserved g c =
    ap (λ rows. filter (λ row. not (is_of g.R.Group.PartialEq.eq g.R.Row.group_of c.args.group row)) rows) c.let_go.ensures
    ∙ (group_over g.R.Group.PartialEq.eq g.R.Place.PartialEq.eq g.R.Row.group_of g.R.Row.place_of c.args.group c.in-Some.place c.loop-place.self ∙ c.loop-place.invariant)

-- the group has no row
pub returns : goal.returns
returns g c =
    let none : list_any (is_of g.R.Group.PartialEq.eq g.R.Row.group_of c.args.group) c.loop-place.self ≡ false = rw c.in_default.is at c.first_place.ensures in
    sym (group_gone g.R.Group.PartialEq.eq g.R.Place.PartialEq.eq g.R.Row.group_of g.R.Row.place_of c.args.group c.loop-place.self none) ∙ c.loop-place.invariant
