use Rattle.std.proofs.Common.{rules}
use Rattle.reg_current.proofs.DatedPlaces.{Small, inserted, small_inserted}
use Rattle.reg_current.proofs.dated_rows.DatedRows.insert.Goals as goal

pub invariant_of-self : goal.invariant_of-self
invariant_of-self c =
    let small : Small (c.args.date, c.args.group, c.args.member) = search rules in
    record { are_small = small_inserted c.insert.result (c.args.date, c.args.group, c.args.member) c.args.self.now.rows c.insert.new.self c.insert.ensures.keys c.insert.ensures.err c.args.self.now.are_small small }

pub returns-clause-ok : goal.returns-clause-ok
returns-clause-ok c d g m = inserted c.args.self.now.rows c.insert.new.self c.args.date c.args.group c.args.member c.in_ok-insert.ensures.updates d g m
