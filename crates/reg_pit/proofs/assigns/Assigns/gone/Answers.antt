use Rattle.std.proofs.Common.{◌==◌}
use Rattle.reg_pit.specs.Assigns.{AreAssignedBy}
use Rattle.reg_pit.specs.declared.assign_lives.AssignLife.{AssignLife}
use Rattle.reg_pit.proofs.Assigning.{gone_noted, ended_of}
use Rattle.reg_pit.proofs.assigns.Assigns.gone.Goals as goal

pub invariant_of-result : goal.invariant_of-result
invariant_of-result c = rw c.end.ensures (ended_of c.args.at (λ (life : AssignLife). life.id == c.args.assign) c.self.inside.lives c.self.inside.values c.self.invariant)

pub returns : goal.returns
returns c =
    let by : AreAssignedBy c.args.at (c.self.inside.lives, c.self.inside.values) = rw (← c.self.view_is) at c.requires in
    rw (c.end.ensures, ← c.self.view_is) (gone_noted c.args.at c.args.assign c.self.inside.lives c.self.inside.values by)
