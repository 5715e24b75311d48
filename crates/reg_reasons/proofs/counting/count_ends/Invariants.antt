use Rattle.std.proofs.Common.{drop}
use Rattle.reg_reasons.specs.Reasons.{is_end}
use Rattle.reg_reasons.proofs.Ends.{AreLeft}
use Rattle.reg_reasons.proofs.counting.count_ends.Given as goal

abbrev pub invariant-loop-composite : goal.invariant-loop-composite
invariant-loop-composite g l = AreLeft (is_end (g.K.Kept.held l.kept) l.person) (drop l.composite-index l.composite-items) l.counts
