use Rattle.std.proofs.Common.{◌==◌, ◌∙◌, ap, filter, not, rules, arith}
use Rattle.reg_facts.proofs.Slotted.{emptied, emptied_at, untaken}
use Rattle.reg_facts.proofs.slots.Slots.remove.Goals as goal

pub invariant_of-self : goal.invariant_of-self
invariant_of-self g c = emptied_at g.R.Numbered.number_of 0 c.args.number c.self.inside.slots.items c.self.invariant

-- the slot of the number is emptied
pub returns-then-place-len : goal.returns-then-place-len
returns-then-place-len g c =
    let is = emptied g.R.Numbered.number_of 0 c.args.number c.args.number c.self.inside.slots.items c.self.invariant (omega arith) ∙ ap (filter (λ row. not (g.R.Numbered.number_of row == c.args.number))) c.self.view_is in
    search (rules, is)

-- there are no more slots
pub returns-else-place-len : goal.returns-else-place-len
returns-else-place-len g c =
    untaken g.R.Numbered.number_of c.self.inside.slots.items c.args.self.now c.args.number c.self.invariant c.self.view_is (search (rules, arith))
