use Rattle.reg_current.specs.Coming.{key_of}
use Rattle.reg_current.proofs.GrantPlaces.{removed, small_removed}
use Rattle.reg_current.proofs.dated_grants.DatedGrants.remove.Goals as goal

pub invariant_of-self : goal.invariant_of-self
invariant_of-self c = record { are_small = small_removed _ c.args.self.now.grants c.remove.new.self c.remove.ensures.keys c.args.self.now.are_small }

pub returns : goal.returns
returns c d k = removed c.args.self.now.grants c.remove.new.self c.args.date (key_of c.args.row.now) c.remove.ensures.updates d k
