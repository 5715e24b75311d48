use Rattle.std.proofs.Common.{◌≡◌, ℕ}
use Rattle.reg_graph.specs.Sets.{holds}
use Rattle.reg_effect.specs.Member.{member_in}
use Rattle.reg_effect.proofs.plain.memberships.Given as goal

abbrev pub invariant-loop-depth : goal.invariant-loop-depth
invariant-loop-depth l = (y q : ℕ) → holds y q l.table ≡ member_in l.depth l.live y q
