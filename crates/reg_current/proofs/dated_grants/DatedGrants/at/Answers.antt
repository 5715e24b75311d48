use Rattle.std.proofs.Common.{rules, ◌≡◌, ◌∙◌, map, filter}
use Rattle.std.specs.Map.Iter.{deref}
use Rattle.std.proofs.lemmas.Map.Iter.{iter_end}
use Rattle.reg_current.proofs.GrantPlaces.{range_at, are_dated}
use Rattle.reg_current.proofs.dated_grants.DatedGrants.at.Goals as goal

pub returns : goal.returns
returns c =
    let part : c.range-row-items.result ≡ filter (range_at c.args.date) c.args.self.now.grants.keys = rw (c.new.ensures.start, c.new.ensures.end, c.first_at.ensures, c.last_at.ensures) at (c.range-row-items.ensures.between c.new.ensures.exhausted) in
    let all : map deref c.loop-row.yielded ≡ c.range-row-items.result = search (rules, iter_end) in
    are_dated c.args.self.now c.args.date _ _ c.loop-row.invariant (all ∙ part) c.range-row-items.ensures.ordered
