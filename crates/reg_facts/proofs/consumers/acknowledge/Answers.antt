use Rattle.std.proofs.Common.{◌∙◌, rules}
use Rattle.reg_facts.specs.Consumers.{acknowledged}
use Rattle.reg_facts.proofs.Acknowledging.{changed_all, step_there, step_other}
use Rattle.reg_facts.proofs.consumers.acknowledge.Goals as goal
use Rattle.reg_facts.proofs.consumers.acknowledge.Goals.{then-eq, else-eq}

pub loop-row-preserved : goal.loop-row-preserved
loop-row-preserved c = elim c.if-eq.branch [
  | then-eq w ↦ step_there c.args.name.now c.args.seq c.loop-row.row-index c.args.rows.now c.loop-row.rows c.if-eq.rows c.row-item.result c.loop-row.invariant c.loop-row-test.true (search rules) w.rows-is
  | else-eq w ↦ step_other c.args.name.now c.args.seq c.loop-row.row-index c.args.rows.now c.loop-row.rows c.if-eq.rows c.row-item.result c.loop-row.invariant c.loop-row-test.true (search rules) w.rows-is
]

pub returns : goal.returns
returns c = c.loop-row.invariant ∙ changed_all (acknowledged c.args.name.now c.args.seq) c.loop-row.row-index c.args.rows.now c.loop-row-test.false
