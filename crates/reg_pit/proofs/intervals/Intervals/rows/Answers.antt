use Rattle.std.proofs.Common.{◌≡◌, ◌∙◌, map, rules, ap}
use Rattle.std.specs.Map.Iter.{deref_pair}
use Rattle.std.specs.BTreeMap.Range.{entries_between}
use Rattle.std.specs.declared.ops.Bound.TheVariants.{Included}
use Rattle.std.proofs.lemmas.Map.Iter.{iter_end}
use Rattle.reg_pit.specs.Runs.{place_cmp, spans_of}
use Rattle.reg_pit.proofs.Looking.{row_of, rows_are, are_spans}
use Rattle.reg_pit.proofs.intervals.Intervals.rows.Goals as goal

pub returns-clause-value : goal.returns-clause-value
returns-clause-value g c =
    let part : c.range-place-items.result ≡ entries_between (place_cmp g.K.Ord.cmp) (Included (c.args.key, c.at-first.result)) (Included (c.args.key, c.never.result)) c.self.inside.starts.entries =
    rw (c.new.ensures.start, c.new.ensures.end) at (c.range-place-items.ensures.between c.new.ensures.exhausted) in
    let all : map deref_pair c.loop-place.yielded ≡ c.range-place-items.result = search (rules, iter_end) in
    rw (← c.self.view_is) (c.loop-place.invariant ∙ (ap (λ x. map row_of x) all ∙ rows_are g.K.Ord.cmp g.met.K.Ord.total c.args.key c.at-first.result c.never.result c.self.inside.starts.entries _ c.self.invariant.runs part (c.at-first.ensures ∙ c.start.ensures) c.never.ensures))

pub returns-clause-spans : goal.returns-clause-spans
returns-clause-spans g c =
    let part : c.range-place-items.result ≡ entries_between (place_cmp g.K.Ord.cmp) (Included (c.args.key, c.at-first.result)) (Included (c.args.key, c.never.result)) c.self.inside.starts.entries =
    rw (c.new.ensures.start, c.new.ensures.end) at (c.range-place-items.ensures.between c.new.ensures.exhausted) in
    let all : map deref_pair c.loop-place.yielded ≡ c.range-place-items.result = search (rules, iter_end) in
    let value : c.loop-place.rows.items ≡ spans_of g.K.Ord.cmp c.self.inside.starts.entries c.args.key =
    c.loop-place.invariant ∙ (ap (λ x. map row_of x) all ∙ rows_are g.K.Ord.cmp g.met.K.Ord.total c.args.key c.at-first.result c.never.result c.self.inside.starts.entries _ c.self.invariant.runs part (c.at-first.ensures ∙ c.start.ensures) c.never.ensures) in
    rw value (are_spans g.K.Ord.cmp c.self.inside.starts.entries c.self.invariant.runs c.args.key)
