use Rattle.std.proofs.Common.{◌≡◌, ◌&&◌, ◌||◌, not, ℕ, drop}
use Rattle.reg_graph.specs.Edges.{among}
use Rattle.reg_access.specs.Grounds.{AreDecided, allows, first_of, grounds_among}
use Rattle.reg_access.proofs.deciding.allowed_among.Given as goal

-- of the members of the groups so far all is decided; who is allowed already, or will be by the statements that are left
abbrev pub invariant-loop-statement : goal.invariant-loop-statement
invariant-loop-statement g l = record {
  known : AreDecided (g.K.Kept.held l.kept) l.groups.keys l.decided.keys;
  allowed : (q : ℕ) →
      (among q l.allowed.keys || (not (among q l.decided.keys) && allows (first_of (grounds_among (g.K.Kept.held l.kept) q (drop l.statement-index l.statements)))))
      ≡ allows (first_of (grounds_among (g.K.Kept.held l.kept) q l.statements));
}
