use Rattle.std.proofs.Common.{◌≡◌, ◌≤◌, length, take}
use Rattle.std.specs.Prelude.{reverse}
use Rattle.reg_outside.specs.MemoryListener.{next_turn_here}
use Rattle.reg_outside.proofs.memory_listener.turns_left.Given as goal

abbrev pub invariant-loop-left : goal.invariant-loop-left
invariant-loop-left l =
    record {
      bound : l.left ≤ length l.coming;
      rest : next_turn_here l.backs (reverse l.coming) ≡ next_turn_here l.backs (reverse (take l.left l.coming));
    }

abbrev pub decreases-loop-left : goal.decreases-loop-left
decreases-loop-left l = l.left
