use Rattle.std.proofs.Common.{◌≡◌, ◌+◌, ◌++◌, drop}
use Rattle.reg_load.specs.Finding.{numbered_groups}
use Rattle.reg_load.proofs.events.push_groups.Given as goal

abbrev pub invariant-loop-name : goal.invariant-loop-name
invariant-loop-name l = record {
  last : l.last ≡ l.facts.made.groups + l.name-index;
  events : l.events.items ++ numbered_groups (l.last + 1) (drop l.name-index l.created) l.facts l.grants ≡ l.fn.events.items ++ numbered_groups (l.facts.made.groups + 1) l.created l.facts l.grants;
}
