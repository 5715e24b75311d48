use Rattle.std.proofs.Common.{◌≡◌, length}
use Rattle.reg_machine.specs.History.{start}
use Rattle.reg_service.specs.Opening.{judged}
use Rattle.reg_service.proofs.opening.replay.Given as goal

-- the rest of the records goes on from the machine so far
abbrev pub invariant-records : goal.invariant-records
invariant-records l = judged start l.fn.records ≡ judged l.machine l.records

abbrev pub decreases-records : goal.decreases-records
decreases-records l = length l.records
