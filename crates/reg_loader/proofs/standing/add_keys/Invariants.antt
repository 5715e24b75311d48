use Rattle.std.proofs.Common.{◌≡◌, ◌++◌, take}
use Rattle.std.specs.List.{filter_map}
use Rattle.reg_loader.specs.Plan.{person_key}
use Rattle.reg_loader.proofs.standing.add_keys.Given as goal

abbrev pub invariant-loop-row : goal.invariant-loop-row
invariant-loop-row l = l.found.items ≡ l.fn.found.items ++ filter_map (person_key l.group) (take l.row-index l.rows)
