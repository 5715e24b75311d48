use Rattle.std.proofs.Common.{◌≡◌, false, length}
use Rattle.reg_keep.specs.MemoryKeeper.{payloads_of, calls_of, is_broken}
use Rattle.reg_keep.proofs.OneByOne.{Added}
use Rattle.reg_keep.proofs.memory_keeper.MemoryKeeperKeeper.append_all.Given as goal

abbrev pub invariant-payloads : goal.invariant-payloads
invariant-payloads l = record {
  added : Added (payloads_of l.fn.self) l.more l.left (payloads_of l.self);
  going : is_broken l.self ≡ false;
  still : (calls_of l.self).faults ≡ (calls_of l.fn.self).faults;
}

abbrev pub decreases-payloads : goal.decreases-payloads
decreases-payloads l = length l.left
