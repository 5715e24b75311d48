use Rattle.std.proofs.Common.{◌≡◌, rules, sym}
use Rattle.std.specs.BTreeMap.Range.{entries_between}
use Rattle.std.specs.declared.ops.Bound.TheVariants.{Included}
use Rattle.std.specs.Map.Iter.{deref_pair}
use Rattle.std.proofs.lemmas.Map.Iter.{rest_all, rest_more}
use Rattle.reg_pit.specs.Runs.{place_cmp}
use Rattle.reg_pit.proofs.Looking.{none_there, first_there, none_looked, one_looked}
use Rattle.reg_pit.proofs.intervals.Intervals.first_after.Goals as goal

-- no interval ends after the moment
pub returns-in-None-clause-none : goal.returns-in-None-clause-none
returns-in-None-clause-none g c =
    let part : c.range.result ≡ entries_between (place_cmp g.K.Ord.cmp) (Included (c.args.key, c.after.result)) (Included (c.args.key, c.never.result)) c.self.inside.starts.entries =
    rw (c.new.ensures.start, c.new.ensures.end) at (c.range.ensures.between c.new.ensures.exhausted) in
    rw (← c.self.view_is) (sym (none_there g.K.Ord.cmp g.met.K.Ord.total c.args.key c.args.t c.after.result c.never.result c.self.inside.starts.entries c.range.result c.self.invariant.runs part c.after.ensures c.never.ensures (search rules)
    (rest_all deref_pair c.range.result c.next.new.self c.next.result c.in-None.is c.next.ensures.steps)))

-- the interval that ends first after the moment tells
pub returns-in-Some-clause-some : goal.returns-in-Some-clause-some
returns-in-Some-clause-some g c =
    let part : c.range.result ≡ entries_between (place_cmp g.K.Ord.cmp) (Included (c.args.key, c.after.result)) (Included (c.args.key, c.never.result)) c.self.inside.starts.entries =
    rw (c.new.ensures.start, c.new.ensures.end) at (c.range.ensures.between c.new.ensures.exhausted) in
    rw (← c.self.view_is) (first_there g.K.Ord.cmp g.met.K.Ord.total c.args.key c.args.t c.after.result c.never.result c.self.inside.starts.entries c.range.result c.self.invariant.runs part c.after.ensures c.never.ensures (search rules)
    (c.in-Some.field-0-0.now, c.in-Some.start.now) c.next.new.self (rest_more deref_pair c.range.result c.next.new.self c.next.result (c.in-Some.field-0-0, c.in-Some.start) c.in-Some.is c.next.ensures.steps))

-- and it is the one looked at
pub returns-in-Some-clause-one : goal.returns-in-Some-clause-one
returns-in-Some-clause-one g c =
    let part : c.range.result ≡ entries_between (place_cmp g.K.Ord.cmp) (Included (c.args.key, c.after.result)) (Included (c.args.key, c.never.result)) c.self.inside.starts.entries =
    rw (c.new.ensures.start, c.new.ensures.end) at (c.range.ensures.between c.new.ensures.exhausted) in
    rw (← c.self.view_is) (one_looked g.K.Ord.cmp g.met.K.Ord.total c.args.key c.args.t c.after.result c.never.result c.self.inside.starts.entries c.range.result c.self.invariant.runs part c.after.ensures c.never.ensures (search rules)
    (c.in-Some.field-0-0.now, c.in-Some.start.now) c.next.new.self (rest_more deref_pair c.range.result c.next.new.self c.next.result (c.in-Some.field-0-0, c.in-Some.start) c.in-Some.is c.next.ensures.steps))

-- where none does, none is looked at
pub returns-in-None-clause-zero : goal.returns-in-None-clause-zero
returns-in-None-clause-zero g c =
    let part : c.range.result ≡ entries_between (place_cmp g.K.Ord.cmp) (Included (c.args.key, c.after.result)) (Included (c.args.key, c.never.result)) c.self.inside.starts.entries =
    rw (c.new.ensures.start, c.new.ensures.end) at (c.range.ensures.between c.new.ensures.exhausted) in
    rw (← c.self.view_is) (none_looked g.K.Ord.cmp g.met.K.Ord.total c.args.key c.args.t c.after.result c.never.result c.self.inside.starts.entries c.range.result c.self.invariant.runs part c.after.ensures c.never.ensures (search rules)
    (rest_all deref_pair c.range.result c.next.new.self c.next.result c.in-None.is c.next.ensures.steps))
