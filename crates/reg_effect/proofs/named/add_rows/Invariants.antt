use Rattle.std.proofs.Common.{◌≡◌, ◌||◌, ℕ, take}
use Rattle.reg_graph.specs.Edges.{among}
use Rattle.reg_effect.specs.Order.{has_live_rows}
use Rattle.reg_effect.proofs.named.add_rows.Given as goal

abbrev pub invariant-loop-row : goal.invariant-loop-row
invariant-loop-row l = (g : ℕ) → among g l.groups.keys ≡ (has_live_rows g (take l.row-index l.rows) || among g l.fn.groups.keys)
