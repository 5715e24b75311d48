use Rattle.std.proofs.Common.{◌≡◌, take}
use Rattle.reg_loader.specs.Plan.{removed}
use Rattle.reg_loader.proofs.keys.without.Given as goal

abbrev pub invariant-loop-key : goal.invariant-loop-key
invariant-loop-key l = l.left.items ≡ removed (take l.key-index l.keys) l.set.keys
