use Rattle.std.proofs.Common.{◌≡◌, ◌++◌, drop}
use Rattle.reg_facts.specs.Events.{grants_added}
use Rattle.reg_edit.proofs.creation.push_grants.Given as goal

-- the events so far, and those of the grants that are left, are all
abbrev pub invariant-loop-row : goal.invariant-loop-row
invariant-loop-row l = l.events.items ++ grants_added (drop l.row-index l.rows) ≡ l.fn.events.items ++ grants_added l.rows
