use Rattle.std.proofs.Common.{◌≡◌, ◌++◌, drop}
use Rattle.reg_view.specs.Answers.{readable_names}
use Rattle.reg_view.proofs.memberships.readable_names.Given as goal

-- the names so far, and those of the ids that are left
abbrev pub invariant-loop-id : goal.invariant-loop-id
invariant-loop-id g l = l.names ++ readable_names (g.K.Kept.held l.kept) l.facts l.who (drop l.id-index l.ids) ≡ readable_names (g.K.Kept.held l.kept) l.facts l.who l.ids
