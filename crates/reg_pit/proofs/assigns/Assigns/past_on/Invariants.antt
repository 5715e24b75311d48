use Rattle.std.proofs.Common.{◌≡◌, ◌++◌, map}
use Rattle.reg_pit.specs.Owned.{with_values}
use Rattle.reg_pit.proofs.assigns.Assigns.past_on.Given as goal

-- the lives so far, and those that are left, are all
abbrev pub invariant-loop-life : goal.invariant-loop-life
invariant-loop-life l = l.assigns.items ++ map (with_values l.fn.self.1) l.life-iterator ≡ map (with_values l.fn.self.1) l.initial.life-iterator
