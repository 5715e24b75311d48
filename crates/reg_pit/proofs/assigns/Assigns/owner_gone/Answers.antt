use Rattle.reg_terms.specs.Kinds.{same_object}
use Rattle.reg_pit.specs.Assigns.{AreAssignedBy}
use Rattle.reg_pit.specs.declared.assign_lives.AssignLife.{AssignLife}
use Rattle.reg_pit.proofs.Assigning.{owner_noted, ended_of}
use Rattle.reg_pit.proofs.assigns.Assigns.owner_gone.Goals as goal

pub invariant_of-result : goal.invariant_of-result
invariant_of-result c = rw c.in_ok-lives.ensures (ended_of c.args.at (λ (life : AssignLife). same_object life.owner c.args.owner) c.self.inside.lives c.self.inside.values c.self.invariant)

pub returns : goal.returns
returns c =
    let by : AreAssignedBy c.args.at (c.self.inside.lives, c.self.inside.values) = rw (← c.self.view_is) at c.requires in
    rw (c.in_ok-lives.ensures, ← c.self.view_is) (owner_noted c.args.at c.args.owner c.self.inside.lives c.self.inside.values by)
