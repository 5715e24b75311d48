use Rattle.std.proofs.Common.{take}
use Rattle.reg_graph.specs.Levels.{level_of}
use Rattle.reg_graph.proofs.Asks.{Asks}
use Rattle.reg_graph.proofs.raise.ask_above.Given as goal

abbrev pub invariant-loop-higher : goal.invariant-loop-higher
invariant-loop-higher l = Asks (level_of l.levels) l.level (take l.higher-index l.higher-items) l.higher-items l.fn.pending.entries l.pending.entries
