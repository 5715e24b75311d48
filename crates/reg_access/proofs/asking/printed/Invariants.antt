use Rattle.std.proofs.Common.{◌≡◌, ◌++◌}
use Rattle.std.specs.Vec.Iter.{into_iter_items}
use Rattle.reg_access.specs.Assigned.{certified_name, days_name, printed}
use Rattle.reg_access.specs.Groups.{attribute_name}
use Rattle.reg_access.proofs.asking.printed.Given as goal

-- those so far, and those of what is left
abbrev pub invariant-loop-row : goal.invariant-loop-row
invariant-loop-row g l =
    let name_of = attribute_name l.machine.history l.machine.clock in
    record {
      days : l.days.items ++ printed name_of days_name (into_iter_items l.row-iterator) ≡ printed name_of days_name (into_iter_items l.initial.row-iterator);
      certified : l.certified.items ++ printed name_of certified_name (into_iter_items l.row-iterator) ≡ printed name_of certified_name (into_iter_items l.initial.row-iterator);
    }
