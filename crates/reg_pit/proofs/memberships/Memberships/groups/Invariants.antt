use Rattle.std.proofs.Common.{◌≡◌, map, filter}
use Rattle.std.specs.Map.Iter.{deref}
use Rattle.reg_pit.proofs.Known.{is_then, second}
use Rattle.reg_pit.proofs.memberships.Memberships.groups.Given as goal

abbrev pub invariant-loop-pair : goal.invariant-loop-pair
invariant-loop-pair l = l.groups.items ≡ map second (filter (is_then l.self l.s l.t) (map deref l.yielded))
