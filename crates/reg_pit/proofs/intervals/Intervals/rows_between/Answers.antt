use Rattle.std.proofs.Common.{◌≡◌, ◌∙◌, map, rules, ap}
use Rattle.std.specs.Map.Iter.{deref_pair}
use Rattle.std.specs.BTreeMap.Range.{entries_between}
use Rattle.std.specs.declared.ops.Bound.TheVariants.{Included}
use Rattle.std.proofs.lemmas.Map.Iter.{iter_end}
use Rattle.reg_pit.specs.Runs.{place_cmp}
use Rattle.reg_pit.proofs.Histories.{keyed_row, keyed_there}
use Rattle.reg_pit.proofs.intervals.Intervals.rows_between.Goals as goal

pub returns : goal.returns
returns g c =
    let part : c.range-place-items.result ≡ entries_between (place_cmp g.K.Ord.cmp) (Included (c.args.from, c.at-first.result)) (Included (c.args.to, c.never.result)) c.self.inside.starts.entries =
    rw (c.new.ensures.start, c.new.ensures.end) at (c.range-place-items.ensures.between c.new.ensures.exhausted) in
    let all : map deref_pair c.loop-place.yielded ≡ c.range-place-items.result = search (rules, iter_end) in
    rw (← c.self.view_is) (λ ties keys sorted each. c.loop-place.invariant ∙ (ap (λ x. map keyed_row x) all ∙ keyed_there g.K.Ord.cmp g.met.K.Ord.total c.args.from c.args.to c.at-first.result c.never.result c.self.inside.starts.entries _ c.self.invariant.runs part (c.at-first.ensures ∙ c.start.ensures) c.never.ensures ties keys sorted each))
