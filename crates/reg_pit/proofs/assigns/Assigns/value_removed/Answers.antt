use Rattle.reg_pit.specs.Assigns.{AreAssignedBy}
use Rattle.reg_pit.proofs.Assigning.{removed_noted, removed_of}
use Rattle.reg_pit.proofs.assigns.Assigns.value_removed.Goals as goal

pub remove_first-requires : goal.remove_first-requires
remove_first-requires c =
    let by : AreAssignedBy c.args.at (c.self.inside.lives, c.self.inside.values) = rw (← c.self.view_is) at c.requires in
    by.values

pub invariant_of-result : goal.invariant_of-result
invariant_of-result c = removed_of c.args.at c.args.assign c.args.value c.self.inside.lives c.self.inside.values c.remove_first.new.self c.self.invariant c.remove_first.ensures.removed

pub returns : goal.returns
returns c =
    let by : AreAssignedBy c.args.at (c.self.inside.lives, c.self.inside.values) = rw (← c.self.view_is) at c.requires in
    rw (← c.self.view_is) (removed_noted c.args.at c.args.assign c.args.value c.self.inside.lives c.self.inside.values c.remove_first.new.self by c.remove_first.ensures.last c.remove_first.ensures.removed)
