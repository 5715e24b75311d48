use Rattle.std.proofs.Common.{◌≡◌, drop}
use Rattle.reg_reasons.specs.Stated.{with_new}
use Rattle.reg_reasons.proofs.explaining.add_new.Given as goal

abbrev pub invariant-loop-group : goal.invariant-loop-group
invariant-loop-group l = with_new l.groups.items (drop l.group-index l.named) ≡ with_new l.fn.groups.items l.named
