use Rattle.reg_view.proofs.Answered.{told_answer}
use Rattle.reg_view.proofs.asking.law_told.Goals as goal

pub returns : goal.returns
returns g c by who query stands = told_answer c.law_by_bytes.ensures.sorted c.law_by_bytes.ensures.same c.args.machine.now.history c.args.machine.now.clock c.facts-facts.result.now c.facts-facts.ensures c.law_sound.ensures c.law_held.ensures c.law_names.ensures by who query stands
