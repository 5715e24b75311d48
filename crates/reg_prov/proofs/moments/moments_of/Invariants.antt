use Rattle.std.proofs.Common.{◌≡◌, map, take}
use Rattle.reg_prov.proofs.Lines.{moment}
use Rattle.reg_prov.proofs.moments.moments_of.Given as goal

abbrev pub invariant-loop-before : goal.invariant-loop-before
invariant-loop-before l = l.moments.items ≡ map moment (take l.before l.log)
