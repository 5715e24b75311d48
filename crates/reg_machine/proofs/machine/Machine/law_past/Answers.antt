use Rattle.reg_machine.proofs.Defined.{defined_told}
use Rattle.reg_machine.proofs.Lived.{facts_before}
use Rattle.reg_machine.proofs.MadeGroups.{made_told}
use Rattle.reg_machine.proofs.Stood.{stood_told}
use Rattle.reg_machine.proofs.machine.Machine.law_past.Goals as goal

pub returns-clause-stays : goal.returns-clause-stays
returns-clause-stays g c before after from t are later less = rw are (facts_before before after from t later less)

pub returns-clause-made : goal.returns-clause-made
returns-clause-made g c = made_told c.self.inside.stamped.commands.items c.self.inside.recorded.value.current.clock c.args.self.now c.self.invariant.stood c.self.view_is

pub returns-clause-defined : goal.returns-clause-defined
returns-clause-defined g c = defined_told c.self.inside.stamped.commands.items c.self.inside.recorded.value.current.clock c.args.self.now c.self.invariant.defined c.self.view_is

pub returns-clause-stood : goal.returns-clause-stood
returns-clause-stood g c = stood_told c.self.inside.stamped.commands.items c.self.inside.recorded.value.current.clock c.args.self.now c.self.invariant.stood c.self.view_is
