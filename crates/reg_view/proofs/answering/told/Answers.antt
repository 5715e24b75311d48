use Rattle.reg_view.specs.Past.{past_at}
use Rattle.reg_view.proofs.Yields.{told_missing}
use Rattle.reg_view.proofs.answering.told.Goals as goal

-- there was no memory, and something isn't there
pub returns-in-Some-clause-told : goal.returns-in-Some-clause-told
returns-in-Some-clause-told g c = told_missing c.missing.result c.args.called (past_at c.args.machine.now) (g.K.Kept.held c.args.kept.now) c.args.facts.now c.args.machine.now.clock c.args.by.now c.args.who.now c.args.query.now c.in-Some.object c.missing.ensures c.requires.called c.in-Some.is
