use Rattle.std.proofs.Common.{◌≡◌}
use Rattle.reg_facts.specs.Consumers.{acknowledged}
use Rattle.reg_facts.proofs.Acknowledging.{changed}
use Rattle.reg_facts.proofs.consumers.acknowledge.Given as goal

-- those so far are as they will be, and the others as they were
abbrev pub invariant-loop-row : goal.invariant-loop-row
invariant-loop-row l = l.rows ≡ changed (acknowledged l.name l.seq) l.row-index l.initial.rows
