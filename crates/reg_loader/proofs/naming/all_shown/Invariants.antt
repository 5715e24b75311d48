use Rattle.std.proofs.Common.{◌≡◌, take, map}
use Rattle.reg_loader.specs.Plan.{shown}
use Rattle.reg_loader.proofs.naming.all_shown.Given as goal

abbrev pub invariant-loop-key : goal.invariant-loop-key
invariant-loop-key l = l.rows ≡ map (shown l.names l.facts) (take l.key-index l.keys)
