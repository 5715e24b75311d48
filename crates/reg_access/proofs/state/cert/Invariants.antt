use Rattle.std.proofs.Common.{◌≡◌, take}
use Rattle.reg_access.specs.Attested.{cert}
use Rattle.reg_access.proofs.state.cert.Given as goal

abbrev pub invariant-loop-c : goal.invariant-loop-c
invariant-loop-c l = l.last ≡ cert (take l.c-index l.certified) l.t
