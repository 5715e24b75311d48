use Rattle.std.proofs.Common.{◌≡◌, ◌++◌, length}
use Rattle.std.specs.List.{take_while}
use Rattle.reg_asof.specs.Then.{is_by}
use Rattle.reg_asof.proofs.records.front_to.Given as goal

-- the records so far, and those of the rest up to the moment, are those of all
abbrev pub invariant-records : goal.invariant-records
invariant-records l = take_while (is_by l.fn.at) l.fn.records ≡ l.front ++ take_while (is_by l.fn.at) l.records

abbrev pub decreases-records : goal.decreases-records
decreases-records l = length l.records
