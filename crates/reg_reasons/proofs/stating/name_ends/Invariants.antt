use Rattle.std.proofs.Common.{◌≡◌, ◌++◌, drop}
use Rattle.reg_reasons.specs.Stated.{ends_of}
use Rattle.reg_reasons.proofs.stating.name_ends.Given as goal

abbrev pub invariant-loop-way : goal.invariant-loop-way
invariant-loop-way l = l.named.items ++ ends_of (drop l.way-index l.ways) ≡ l.fn.named.items ++ ends_of l.ways
