use Rattle.std.proofs.Common.{◌≡◌, ◌++◌, drop, map}
use Rattle.reg_audit.specs.Lines.{turn_line}
use Rattle.reg_audit.proofs.noting.log_turns.Given as goal

abbrev pub invariant-loop-turn : goal.invariant-loop-turn
invariant-loop-turn l = l.log ++ map (turn_line l.at) (drop l.turn-index l.turned) ≡ l.fn.log ++ map (turn_line l.at) l.turned
