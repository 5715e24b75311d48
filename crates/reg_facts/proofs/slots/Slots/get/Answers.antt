use Rattle.std.proofs.Common.{◌∙◌, ap, Some, None}
use Rattle.std.specs.Option.{option_copied}
use Rattle.reg_facts.proofs.Slotted.{got}
use Rattle.reg_facts.proofs.slots.Slots.get.Goals as goal

-- the row is in the slot of its number
pub returns-in-Some : goal.returns-in-Some
returns-in-Some g c =
    c.as_ref.ensures.value
    ∙ got g.R.Numbered.number_of c.self.inside.slots.items c.args.self.now c.args.number c.get.result (Some c.in-Some.slot.now) c.self.invariant c.self.view_is (rw c.deref.ensures.value at c.get.ensures.lookup) (ap option_copied c.in-Some.is)

-- there are no more slots
pub returns-in-None : goal.returns-in-None
returns-in-None g c =
    got g.R.Numbered.number_of c.self.inside.slots.items c.args.self.now c.args.number c.get.result None c.self.invariant c.self.view_is (rw c.deref.ensures.value at c.get.ensures.lookup) (ap option_copied c.in-None.is)
