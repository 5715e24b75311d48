use Rattle.std.proofs.Common.{◌≡◌, ◌++◌, drop}
use Rattle.reg_access.specs.Grounds.{grounds_among}
use Rattle.reg_access.proofs.deciding.grounds_among.Given as goal

-- the grounds so far, and those of the statements that are left
abbrev pub invariant-loop-statement : goal.invariant-loop-statement
invariant-loop-statement g l = l.found.items ++ grounds_among (g.K.Kept.held l.kept) l.subject (drop l.statement-index l.statements) ≡ grounds_among (g.K.Kept.held l.kept) l.subject l.statements
