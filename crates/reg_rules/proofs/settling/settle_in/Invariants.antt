use Rattle.std.proofs.Common.{◌+◌, []}
use Rattle.reg_rules.specs.Outcome.{gathered}
use Rattle.reg_rules.specs.Settling.{settling}
use Rattle.reg_rules.proofs.Outcomes.{Leads}
use Rattle.reg_rules.proofs.Rounds.{any}
use Rattle.reg_rules.proofs.Spending.{weight}
use Rattle.reg_rules.proofs.settling.settle_in.Given as goal

abbrev pub invariant-loop-alloc : goal.invariant-loop-alloc
invariant-loop-alloc g l = Leads (settling l.pairs (g.C.Carrier.stands l.carrier).clock (g.C.Carrier.stands l.carrier).facts) (settling l.fn.ended (g.C.Carrier.stands l.fn.carrier).clock (g.C.Carrier.stands l.fn.carrier).facts)
    (g.C.Carrier.stands l.fn.carrier) (g.C.Carrier.stands l.carrier) (gathered [] l.fn.turned l.fn.steps) (gathered l.actions.items l.turned l.steps)

abbrev pub decreases-loop-alloc : goal.decreases-loop-alloc
decreases-loop-alloc g l = any l.pairs + weight (g.C.Carrier.stands l.carrier).facts.rows
