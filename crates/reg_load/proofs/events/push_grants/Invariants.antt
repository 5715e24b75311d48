use Rattle.std.proofs.Common.{◌≡◌, ◌++◌, drop, map}
use Rattle.reg_facts.specs.Events.{grants_added}
use Rattle.reg_load.specs.Finding.{on_group}
use Rattle.reg_load.proofs.events.push_grants.Given as goal

abbrev pub invariant-loop-grant : goal.invariant-loop-grant
invariant-loop-grant l = l.events.items ++ grants_added (map (on_group l.group) (drop l.grant-index l.grants)) ≡ l.fn.events.items ++ grants_added (map (on_group l.group) l.grants)
