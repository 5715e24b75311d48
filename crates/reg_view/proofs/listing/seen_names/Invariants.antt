use Rattle.std.proofs.Common.{◌≡◌, ◌++◌, length}
use Rattle.reg_view.specs.Answers.{seen_names}
use Rattle.reg_view.proofs.listing.seen_names.Given as goal

-- those that are seen so far, and those of what is left
abbrev pub invariant-loop-name : goal.invariant-loop-name
invariant-loop-name g l = l.seen ++ seen_names (g.K.Kept.held l.kept) l.facts l.who l.pieces ≡ seen_names (g.K.Kept.held l.kept) l.facts l.who l.names

abbrev pub decreases-loop-name : goal.decreases-loop-name
decreases-loop-name g l = length l.pieces
