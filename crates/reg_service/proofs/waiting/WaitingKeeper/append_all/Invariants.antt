use Rattle.std.proofs.Common.{◌≡◌, false, length}
use Rattle.reg_keep.proofs.OneByOne.{Added}
use Rattle.reg_service.proofs.waiting.WaitingKeeper.append_all.Given as goal

abbrev pub invariant-payloads : goal.invariant-payloads
invariant-payloads l = record {
  before : l.self.before ≡ l.fn.self.before;
  added : Added l.fn.self.held l.more l.left l.self.held;
  going : l.self.short ≡ false;
}

abbrev pub decreases-payloads : goal.decreases-payloads
decreases-payloads l = length l.left
