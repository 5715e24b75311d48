use Rattle.reg_reasons.specs.Ways.{begun}
use Rattle.reg_reasons.proofs.Closing.{Explains}
use Rattle.reg_reasons.proofs.explaining.explain.Given as goal

abbrev pub invariant-loop-place : goal.invariant-loop-place
invariant-loop-place g l = Explains (g.K.Kept.held l.kept) (begun l.fn.at l.fn.rows) l.fn.person l.fn.most l.fn.group l.groups.items l.place l.statements.items
