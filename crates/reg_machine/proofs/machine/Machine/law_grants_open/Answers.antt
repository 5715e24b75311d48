use Rattle.reg_machine.proofs.GrantWindows.{opened_told}
use Rattle.reg_machine.proofs.machine.Machine.law_grants_open.Goals as goal

pub returns : goal.returns
returns g c = opened_told c.self.inside.stamped.commands.items c.self.inside.recorded.value.current.clock c.args.self.now c.self.invariant.opened c.self.view_is
