use Rattle.std.proofs.Common.{◌≡◌}
use Rattle.reg_rules.specs.Veto.{first_veto}
use Rattle.reg_rules.proofs.vetoing.veto.Given as goal

abbrev pub invariant-loop-rule : goal.invariant-loop-rule
invariant-loop-rule g l = first_veto (g.K.Kept.held l.kept) l.group l.subject l.rule-iterator ≡ first_veto (g.K.Kept.held l.kept) l.group l.subject l.facts.rules
