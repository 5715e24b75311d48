use Rattle.std.proofs.Common.{◌≡◌, ◌||◌, ℕ, take}
use Rattle.reg_graph.specs.Sets.{holds}
use Rattle.reg_effect.specs.Member.{in_rows}
use Rattle.reg_effect.proofs.plain.add_rows.Given as goal

abbrev pub invariant-loop-row : goal.invariant-loop-row
invariant-loop-row l = (y q : ℕ) → holds y q l.next ≡ (in_rows (λ h. holds h q l.table) (take l.row-index l.rows) y q || holds y q l.fn.next)
