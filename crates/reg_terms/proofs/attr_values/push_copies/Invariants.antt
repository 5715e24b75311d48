use Rattle.std.proofs.Common.{◌≡◌, ◌++◌, take}
use Rattle.reg_terms.proofs.attr_values.push_copies.Given as goal

-- the values so far are copied
abbrev pub invariant-loop-item : goal.invariant-loop-item
invariant-loop-item l = l.values ≡ l.initial.values ++ take l.item-index l.items
