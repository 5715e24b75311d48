use Rattle.reg_machine.specs.Checks.{checks}
use Rattle.reg_machine.proofs.machine.Machine.checked.Goals as goal

pub returns-in-MemberAdd : goal.returns-in-MemberAdd
unfolding checks
returns-in-MemberAdd g c = rw c.in-MemberAdd.is c.decide_member_add.ensures

pub returns-in-Load : goal.returns-in-Load
unfolding checks
returns-in-Load g c = rw c.in-Load.is c.decide_load.ensures
