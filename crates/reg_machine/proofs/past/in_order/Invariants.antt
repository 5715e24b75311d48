use Rattle.std.proofs.Common.{◌≡◌, drop}
use Rattle.std.specs.Ordering.{nat_cmp}
use Rattle.reg_table.specs.Keyed.{in_order, put_into}
use Rattle.reg_machine.proofs.past.in_order.Given as goal

abbrev pub invariant-loop-group : goal.invariant-loop-group
invariant-loop-group l = put_into nat_cmp l.ordered.keys (drop l.group-index l.groups) ≡ in_order nat_cmp l.groups
