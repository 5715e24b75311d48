use Rattle.std.proofs.Common.{◌≡◌, ◌-◌, ◌≤◌, vec_len}
use Rattle.reg_facts.specs.Slots.{present, AtPlaces}
use Rattle.reg_facts.proofs.slots.make_room.Given as goal

-- the rows stay, and there are no more slots than there is room for
abbrev pub invariant-loop-slots : goal.invariant-loop-slots
invariant-loop-slots g l = AtPlaces g.R.Numbered.number_of 0 l.slots.items × (present l.slots.items ≡ present l.initial.slots.items) × (vec_len l.slots ≤ l.place)

abbrev pub decreases-loop-slots : goal.decreases-loop-slots
decreases-loop-slots g l = l.place - vec_len l.slots
