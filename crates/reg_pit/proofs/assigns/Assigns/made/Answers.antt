use Rattle.std.proofs.Common.{◌<◌}
use Rattle.reg_pit.specs.Assigns.{AreAssignedBy}
use Rattle.reg_pit.specs.Lives.{last_made}
use Rattle.reg_pit.proofs.Assigning.{made_noted, made_of}
use Rattle.reg_pit.proofs.assigns.Assigns.made.Goals as goal

pub with-requires : goal.with-requires
with-requires c = rw (← c.self.view_is) at c.requires.new

pub invariant_of-result : goal.invariant_of-result
invariant_of-result c =
    let later : last_made c.self.inside.lives < c.args.assign = rw (← c.self.view_is) at c.requires.new in
    rw c.in_ok-lives.ensures (made_of c.args.at c.args.assign c.args.attribute c.args.owner c.self.inside.lives c.self.inside.values c.self.invariant later)

pub returns : goal.returns
returns c =
    let later : last_made c.self.inside.lives < c.args.assign = rw (← c.self.view_is) at c.requires.new in
    let by : AreAssignedBy c.args.at (c.self.inside.lives, c.self.inside.values) = rw (← c.self.view_is) at c.requires.last in
    rw (c.in_ok-lives.ensures, ← c.self.view_is) (made_noted c.args.at c.args.assign c.args.attribute c.args.owner c.self.inside.lives c.self.inside.values c.self.invariant by later)
