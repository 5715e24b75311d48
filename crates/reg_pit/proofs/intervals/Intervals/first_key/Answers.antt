use Rattle.std.proofs.Common.{◌≡◌, ◌∙◌}
use Rattle.std.specs.BTreeMap.Range.{entries_between}
use Rattle.std.specs.declared.ops.Bound.TheVariants.{Included}
use Rattle.std.specs.Map.Iter.{deref_pair}
use Rattle.std.proofs.lemmas.Map.Iter.{rest_all, rest_more}
use Rattle.reg_pit.specs.Runs.{place_cmp}
use Rattle.reg_pit.proofs.Stepping.{none_between, first_between}
use Rattle.reg_pit.proofs.intervals.Intervals.first_key.Goals as goal

pub returns-in-None-clause-none : goal.returns-in-None-clause-none
returns-in-None-clause-none g c =
    let part : c.range.result ≡ entries_between (place_cmp g.K.Ord.cmp) (Included (c.args.from, c.at-first.result)) (Included (c.args.to, c.never.result)) c.self.inside.starts.entries =
    rw (c.new.ensures.start, c.new.ensures.end) at (c.range.ensures.between c.new.ensures.exhausted) in
    rw (← c.self.view_is) (none_between g.K.Ord.cmp g.met.K.Ord.total c.args.from c.args.to c.at-first.result c.never.result c.self.inside.starts.entries c.range.result c.self.invariant.runs part (c.at-first.ensures ∙ c.start.ensures) c.never.ensures
    (rest_all deref_pair c.range.result c.next.new.self c.next.result c.in-None.is c.next.ensures.steps))

pub returns-in-Some-clause-some : goal.returns-in-Some-clause-some
returns-in-Some-clause-some g c =
    let part : c.range.result ≡ entries_between (place_cmp g.K.Ord.cmp) (Included (c.args.from, c.at-first.result)) (Included (c.args.to, c.never.result)) c.self.inside.starts.entries =
    rw (c.new.ensures.start, c.new.ensures.end) at (c.range.ensures.between c.new.ensures.exhausted) in
    rw (← c.self.view_is) (first_between g.K.Ord.cmp g.met.K.Ord.total c.args.from c.args.to c.at-first.result c.never.result c.self.inside.starts.entries c.range.result c.self.invariant.runs part (c.at-first.ensures ∙ c.start.ensures) c.never.ensures
    (c.in-Some.place.now, c.in-Some.field-0-1.now) c.next.new.self (rest_more deref_pair c.range.result c.next.new.self c.next.result (c.in-Some.place, c.in-Some.field-0-1) c.in-Some.is c.next.ensures.steps))
