use Rattle.std.proofs.Common.{◌≡◌, drop}
use Rattle.reg_machine.specs.Checks.{rows_veto}
use Rattle.reg_machine.specs.History.{now_facts}
use Rattle.reg_current.specs.Live.{live}
use Rattle.reg_machine.proofs.machine.Machine.rows_veto.Given as goal

-- none so far, so it is that of one of the rest
abbrev pub invariant-loop-row : goal.invariant-loop-row
invariant-loop-row g l = rows_veto (live l.self.clock (now_facts l.self)) (now_facts l.self) (drop l.row-index l.rows) ≡ rows_veto (live l.self.clock (now_facts l.self)) (now_facts l.self) l.rows
