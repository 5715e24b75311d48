use Rattle.reg_current.proofs.Acting.{end_cost, end_holds}
use Rattle.reg_current.proofs.RowFound.{on_ok}
use Rattle.reg_current.proofs.settling.CurrentCarrier.with_end.Goals as goal

pub carry-requires : goal.carry-requires
carry-requires g c = end_holds (record { clock = c.args.self.clock; facts = c.args.self.facts }) c.args.group c.args.person c.args.from c.args.until c.requires.on c.requires.later

pub returns-clause-cost : goal.returns-clause-cost
returns-clause-cost g c =
    on_ok c.carry.result c.carry.ensures.cost (λ le. end_cost (record { clock = c.args.self.clock; facts = c.args.self.facts }) c.args.group c.args.person c.args.from c.args.until c.args.steps.now c.carry.new.steps c.requires.on le)
