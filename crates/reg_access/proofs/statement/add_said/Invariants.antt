use Rattle.std.proofs.Common.{◌≡◌, drop, map}
use Rattle.std.specs.Map.Iter.{deref}
use Rattle.reg_table.specs.Keyed.{put_into}
use Rattle.reg_access.specs.Statements.{said, statement_cmp}
use Rattle.reg_access.proofs.statement.add_said.Given as goal

-- what the rest of the values adds
abbrev pub invariant-loop-place : goal.invariant-loop-place
invariant-loop-place l = put_into statement_cmp l.statements.keys (said l.source l.action l.place (map deref (drop l.place l.values))) ≡ put_into statement_cmp l.fn.statements.keys (said l.source l.action 0 (map deref l.values))
