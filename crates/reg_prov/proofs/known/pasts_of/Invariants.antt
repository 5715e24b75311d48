use Rattle.reg_prov.specs.Wanted.{wants}
use Rattle.reg_prov.proofs.Gathered.{Gathered}
use Rattle.reg_prov.proofs.known.pasts_of.Given as goal

-- the groups so far
abbrev pub invariant-loop-number : goal.invariant-loop-number
invariant-loop-number g l = Gathered (wants l.machine.history l.provisioner) l.machine.clock l.number l.pasts.items
