use Rattle.std.proofs.Common.{◌≡◌, ◌++◌, ◌<◌, ◌^◌, drop, map}
use Rattle.std.specs.List.{AllByRecursion}
use Rattle.reg_terms.specs.declared.rows.PersonRow.{PersonRow}
use Rattle.reg_facts.specs.Events.{row_comes}
use Rattle.reg_load.proofs.events.push_coming.Given as goal

abbrev pub invariant-loop-row : goal.invariant-loop-row
invariant-loop-row l = record {
  small : AllByRecursion (λ (row : PersonRow). row.group < 2 ^ 32) (drop l.row-index l.rows);
  events : l.events.items ++ map (row_comes l.at) (drop l.row-index l.rows) ≡ l.fn.events.items ++ map (row_comes l.at) l.rows;
}
