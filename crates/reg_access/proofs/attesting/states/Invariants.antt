use Rattle.std.proofs.Common.{length}
use Rattle.reg_access.specs.Groups.{assigned, attested_at}
use Rattle.reg_access.proofs.Passing.{Listed}
use Rattle.reg_access.proofs.attesting.states.Given as goal

abbrev pub invariant-loop-from : goal.invariant-loop-from
invariant-loop-from g l = Listed (assigned l.machine.history l.fn.group) (λ t. (attested_at l.machine.history l.machine.clock l.fn.group t).kind) l.end l.rest l.states.items

abbrev pub decreases-loop-from : goal.decreases-loop-from
decreases-loop-from g l = length l.rest
