use Rattle.reg_machine.specs.Keys.{keyed}
use Rattle.reg_service.proofs.Keyed.{again_free, again_told, again_kept}
use Rattle.reg_service.proofs.service.told_again.Goals as goal

-- a command with a key is told of as what is kept there
pub returns-in-Some-clause-free : goal.returns-in-Some-clause-free
returns-in-Some-clause-free c none = rw c.in-Some.is (again_free (keyed c.args.machine.now.history c.args.stamped.now.by c.in-Some.key) c.args.stamped.now.command c.told_under.result c.told_under.ensures none)

pub returns-in-Some-clause-told : goal.returns-in-Some-clause-told
returns-in-Some-clause-told c = rw c.in-Some.is (again_told c.args.machine.now c.args.stamped.now.by c.in-Some.key c.args.stamped.now.command (keyed c.args.machine.now.history c.args.stamped.now.by c.in-Some.key) c.told_under.result c.told_under.ensures)

pub returns-in-Some-clause-kept : goal.returns-in-Some-clause-kept
returns-in-Some-clause-kept c n id is = again_kept c.args.machine.now.history c.args.stamped.now.by c.in-Some.key c.args.stamped.now.command c.told_under.result n id c.told_under.ensures is
