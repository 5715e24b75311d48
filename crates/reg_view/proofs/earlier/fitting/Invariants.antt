use Rattle.std.proofs.Common.{◌≡◌, ◌++◌, drop, filter}
use Rattle.reg_view.specs.Held.{fits}
use Rattle.reg_view.proofs.earlier.fitting.Given as goal

-- those so far, and those among the rest, are all
abbrev pub invariant-loop-privilege : goal.invariant-loop-privilege
invariant-loop-privilege l = l.list ++ filter (fits l.object l.root l.held) (drop l.privilege-index l.privilege-items) ≡ filter (fits l.object l.root l.held) l.privilege-items
