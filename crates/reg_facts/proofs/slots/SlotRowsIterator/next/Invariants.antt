use Rattle.std.proofs.Common.{◌≡◌, length}
use Rattle.reg_facts.specs.Slots.{present}
use Rattle.reg_facts.proofs.slots.SlotRowsIterator.next.Given as goal

-- only empty slots were passed over
abbrev pub invariant-loop-slot : goal.invariant-loop-slot
invariant-loop-slot g l = present l.self-inside.slots.now ≡ present l.initial.self-inside.slots.now

abbrev pub decreases-loop-slot : goal.decreases-loop-slot
decreases-loop-slot g l = length l.self-inside.slots.now
