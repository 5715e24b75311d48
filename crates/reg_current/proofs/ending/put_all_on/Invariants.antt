use Rattle.std.proofs.Common.{◌≡◌, ◌++◌, map, drop}
use Rattle.reg_current.specs.Dates.{grant_on}
use Rattle.reg_current.proofs.ending.put_all_on.Given as goal

-- the events so far, and those of the grants that are left, are all
abbrev pub invariant-loop-key : goal.invariant-loop-key
invariant-loop-key l = l.events.items ++ map (grant_on l.facts.grants) (drop l.key-index l.keys) ≡ l.fn.events.items ++ map (grant_on l.facts.grants) l.keys
