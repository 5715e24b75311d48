use Rattle.reg_current.proofs.RowFound.{on_ok}
use Rattle.reg_current.proofs.redating.redate.Goals as goal

pub returns-in-RowAdded : goal.returns-in-RowAdded
returns-in-RowAdded c = rw c.in-RowAdded.is (on_ok c.add_row.result c.add_row.ensures (λ more. more c.args.facts.now.rows c.args.facts.now.grants c.requires.found))

pub returns-in-GrantAdded : goal.returns-in-GrantAdded
returns-in-GrantAdded c = rw c.in-GrantAdded.is (on_ok c.add_grant.result c.add_grant.ensures (λ more. more c.args.facts.now.rows c.args.facts.now.grants c.requires.found))
