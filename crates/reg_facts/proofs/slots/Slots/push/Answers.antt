use Rattle.std.proofs.Common.{List, ◌++◌, ◌∷◌, ◌∙◌, [], ap, arith}
use Rattle.reg_facts.specs.Slots.{present}
use Rattle.reg_facts.proofs.Slotted.{room_kept, row_at, row_rows}
use Rattle.reg_facts.proofs.slots.Slots.push.Goals as goal

-- it stands at the place of its number
pub invariant_of-self-2 : goal.invariant_of-self-2
invariant_of-self-2 g c =
    let room = c.in_ok-make_room.ensures.room in
    let number = c.number-place.ensures in
    rw c.in_ok-push.ensures.items (row_at g.R.Numbered.number_of 0 c.make_room.new.slots.items c.args.row c.in_ok-make_room.ensures.stand (omega (arith, room, number)))

pub returns : goal.returns
returns g c =
    ap present c.in_ok-push.ensures.items
    ∙ row_rows c.make_room.new.slots.items c.args.row
    ∙ ap (λ rows. rows ++ c.args.row ∷ []) (c.in_ok-make_room.ensures.same ∙ room_kept g.R.Numbered.number_of c.self.inside.slots.items c.args.self.now c.args.row c.number-place.result c.self.invariant c.self.view_is c.requires c.number-place.ensures)
