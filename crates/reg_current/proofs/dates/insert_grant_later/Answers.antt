use Rattle.std.proofs.lemmas.Result.{IfOk-weaker}
use Rattle.reg_current.specs.Coming.{key_of}
use Rattle.reg_current.proofs.ComingRows.{before, not_before}
use Rattle.reg_current.proofs.ComingGrants.{grant_in, grant_out}
use Rattle.reg_current.proofs.dates.insert_grant_later.Goals as goal

pub returns-then-lt : goal.returns-then-lt
returns-then-lt c = IfOk-weaker c.insert.result _ _ (λ done put. grant_in c.args.clock c.args.date (key_of c.args.row.now) c.args.set.now c.insert.new.self (before c.args.clock c.args.date c.lt.result c.lt.ensures c.if-lt.true) put) c.insert.ensures.ok

pub returns-else-lt : goal.returns-else-lt
returns-else-lt c = grant_out c.args.clock c.args.date (key_of c.args.row.now) c.args.set.now (not_before c.args.clock c.args.date c.lt.result c.lt.ensures c.if-lt.false)
