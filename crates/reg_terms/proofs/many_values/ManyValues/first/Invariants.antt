use Rattle.std.proofs.Common.{◌≡◌}
use Rattle.reg_terms.proofs.Placing.{first_in}
use Rattle.reg_terms.proofs.many_values.ManyValues.first.Given as goal

-- the first of those that are left is the first of all
abbrev pub invariant-loop-placed : goal.invariant-loop-placed
invariant-loop-placed l = first_in l.fn.value l.placed-iterator ≡ first_in l.fn.value l.initial.placed-iterator
