use Rattle.reg_current.specs.Coming.{key_of}
use Rattle.reg_current.proofs.GrantPlaces.{inserted, small_inserted}
use Rattle.reg_current.proofs.dated_grants.DatedGrants.insert.Goals as goal

pub invariant_of-self : goal.invariant_of-self
invariant_of-self c = record { are_small = small_inserted c.insert.result (c.args.date, c.args.row.now.object, c.args.row.now.privilege, c.args.row.now.holder) c.args.self.now.grants c.insert.new.self c.insert.ensures.keys c.insert.ensures.err c.args.self.now.are_small (c.law_object.ensures, c.law_holder.ensures) }

pub returns-clause-ok : goal.returns-clause-ok
returns-clause-ok c d k = inserted c.args.self.now.grants c.insert.new.self c.args.date (key_of c.args.row.now) c.in_ok-insert.ensures.updates d k
