use Rattle.std.proofs.Common.{◌∙◌, sym}
use Rattle.reg_pit.specs.Assigns.{AreAssignedBy}
use Rattle.reg_pit.proofs.Assigning.{added_noted, added_of, never_made}
use Rattle.reg_pit.proofs.assigns.Assigns.value_added.Goals as goal

pub invariant_of-result : goal.invariant_of-result
invariant_of-result c =
    added_of c.args.at c.args.assign c.args.value c.self.inside.lives c.self.inside.values c.in_ok-values.values c.self.invariant (c.has.ensures.low c.if-not-has.false) c.in_ok-values.ensures.added

-- it was never made
pub returns-then-not-has : goal.returns-then-not-has
returns-then-not-has c =
    let by : AreAssignedBy c.args.at (c.self.inside.lives, c.self.inside.values) = rw (← c.self.view_is) at c.requires in
    rw (← c.self.view_is) (never_made c.args.at c.args.assign c.args.value c.self.inside.lives c.self.inside.values by (sym c.has.ensures.value ∙ c.if-not-has.true))

pub returns : goal.returns
returns c =
    let by : AreAssignedBy c.args.at (c.self.inside.lives, c.self.inside.values) = rw (← c.self.view_is) at c.requires in
    rw (← c.self.view_is) (added_noted c.args.at c.args.assign c.args.value c.self.inside.lives c.self.inside.values c.in_ok-values.values by (c.in_ok-values.ensures.last by.values) c.in_ok-values.ensures.added)
