use Rattle.std.proofs.Common.{◌≡◌, ◌++◌}
use Rattle.reg_rules.proofs.settling.rules_checking.Given as goal

-- the rules so far, and those that are left, are all
abbrev pub invariant-loop-rule : goal.invariant-loop-rule
invariant-loop-rule l = l.rules.items ++ l.rule-iterator ≡ l.initial.rule-iterator
