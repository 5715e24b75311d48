use Rattle.reg_current.proofs.Acting.{off_cost, off_holds}
use Rattle.reg_current.proofs.RowFound.{on_ok}
use Rattle.reg_current.proofs.settling.CurrentCarrier.without_row.Goals as goal

pub carry-requires : goal.carry-requires
carry-requires g c = off_holds (record { clock = c.args.self.clock; facts = c.args.self.facts }) c.args.group c.args.person c.requires

pub returns-clause-cost : goal.returns-clause-cost
returns-clause-cost g c =
    on_ok c.carry.result c.carry.ensures.cost (λ le. off_cost (record { clock = c.args.self.clock; facts = c.args.self.facts }) c.args.group c.args.person c.args.steps.now c.carry.new.steps c.requires le)
