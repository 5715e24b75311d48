use Rattle.reg_current.proofs.DatedPlaces.{removed, small_removed}
use Rattle.reg_current.proofs.dated_rows.DatedRows.remove.Goals as goal

pub invariant_of-self : goal.invariant_of-self
invariant_of-self c = record { are_small = small_removed _ c.args.self.now.rows c.remove.new.self c.remove.ensures.keys c.args.self.now.are_small }

pub returns : goal.returns
returns c d g m = removed c.args.self.now.rows c.remove.new.self c.args.date c.args.group c.args.member c.remove.ensures.updates d g m
