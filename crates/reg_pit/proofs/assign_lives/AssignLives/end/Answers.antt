use Rattle.std.proofs.Common.{◌≡◌, ◌∙◌, Some, None, sym}
use Rattle.reg_pit.specs.Lives.{owner_of}
use Rattle.reg_pit.proofs.Ending.{id_tells, no_id_ends}
use Rattle.reg_pit.proofs.assign_lives.AssignLives.end.Goals as goal

pub returns-in-Some : goal.returns-in-Some
returns-in-Some c =
    let found : owner_of c.args.assign c.self.inside.lives ≡ Some c.in-Some.owner = sym (c.self.invariant.owned c.args.assign) ∙ (sym c.get.ensures.value ∙ (sym c.copied.ensures ∙ c.in-Some.is)) in
    c.end_of.ensures ∙ rw (← c.self.view_is) (id_tells c.args.assign c.args.at 0 c.in-Some.owner c.self.inside.lives c.self.invariant.rising found)

pub returns-in_default : goal.returns-in_default
returns-in_default c =
    let none : owner_of c.args.assign c.self.inside.lives ≡ None = sym (c.self.invariant.owned c.args.assign) ∙ (sym c.get.ensures.value ∙ (sym c.copied.ensures ∙ c.in_default.is)) in
    rw (← c.self.view_is) (no_id_ends c.args.assign c.args.at c.self.inside.lives none)
