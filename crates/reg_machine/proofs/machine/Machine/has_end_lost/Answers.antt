use Rattle.std.proofs.Common.{sym}
use Rattle.reg_machine.specs.History.{facts}
use Rattle.reg_machine.proofs.LongRules.{none_so_late, too_many}
use Rattle.reg_machine.proofs.machine.Machine.has_end_lost.Goals as goal

pub returns-in-Err : goal.returns-in-Err
returns-in-Err g c =
    let now = facts c.args.self.now.history c.args.self.now.clock in
    sym (none_so_late now c.args.check c.args.owner c.args.days now.rules (rw c.facts-in-Err.ensures at c.law_rules.ensures.stand) (too_many c.args.days c.in-Err.ensures))
