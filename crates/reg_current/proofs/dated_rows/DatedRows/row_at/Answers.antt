use Rattle.std.proofs.Common.{◌≡◌, filter}
use Rattle.reg_current.proofs.DatedPlaces.{derived_at, row_is}
use Rattle.reg_current.proofs.dated_rows.DatedRows.row_at.Goals as goal

pub returns : goal.returns
returns c =
    let part : c.range.result ≡ filter (derived_at c.args.date) c.args.self.now.rows.keys = rw (c.new.ensures.start, c.new.ensures.end, c.first_at.ensures, c.last_at.ensures) at (c.range.ensures.between c.new.ensures.exhausted) in
    row_is c.args.self.now c.args.date c.next.result c.copied.result c.range.result c.next.new.self c.copied.ensures c.next.ensures.steps part
