use Rattle.std.proofs.Common.{◌≡◌, take}
use Rattle.reg_loader.specs.Plan.{each_once, same_key}
use Rattle.reg_loader.proofs.keys.set_of.Given as goal

abbrev pub invariant-loop-key : goal.invariant-loop-key
invariant-loop-key l = l.set.keys ≡ each_once same_key (take l.key-index l.keys)
