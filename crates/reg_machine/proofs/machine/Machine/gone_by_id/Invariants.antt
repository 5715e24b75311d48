use Rattle.std.proofs.Common.{◌≡◌, filter_map, map}
use Rattle.std.specs.Map.Iter.{deref}
use Rattle.reg_machine.specs.Past.{group_end}
use Rattle.reg_machine.proofs.machine.Machine.gone_by_id.Given as goal

abbrev pub invariant-loop-group : goal.invariant-loop-group
invariant-loop-group g l = l.rows.items ≡ filter_map (group_end l.self.history l.self.clock) (map deref l.yielded)
