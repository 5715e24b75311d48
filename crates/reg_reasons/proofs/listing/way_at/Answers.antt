use Rattle.std.proofs.Common.{◌≡◌, ◌+◌, ◌-◌, ◌==◌, ◌∷◌, ◌++◌, [], ◌∙◌, None, Some, sym, ap, arith, slice_get}
use Rattle.reg_terms.specs.declared.kinds.Member.TheVariants.{Group}
use Rattle.reg_reasons.specs.Ways.{by_rows, ways}
use Rattle.reg_reasons.specs.Counts.{AreOf}
use Rattle.reg_reasons.specs.Picks.{Picks}
use Rattle.reg_reasons.proofs.Numbers.{level_at}
use Rattle.reg_reasons.proofs.Picking.{GoesOn, goes_more, goes_none, goes_nowhere, goes_whole}
use Rattle.reg_reasons.proofs.listing.way_at.Goals as goal

pub returns-in_default-pick : goal.returns-in_default-pick
returns-in_default-pick c = λ E all.
    let rows = c.args.rows.now in
    let s = c.args.person in
    let left = c.args.n - 1 - c.loop-step.step in
    let n = c.requires.n in
    let whole = slice_get (ways c.args.n rows E s c.args.group) c.args.k in
    let of : AreOf (ways left rows E s) c.index-levels-left.result = level_at (λ m h. ways m rows E s h) c.args.levels.now left c.index-levels-left.result all (omega (arith, n)) c.index-levels-left.is in
    let on : GoesOn rows E s whole c.loop-step.way.items (c.args.n - c.loop-step.step) (Group c.in-Group.here) c.loop-step.rest = rw c.in-Group.is at (c.loop-step.invariant.1 E all) in
    let none : slice_get (by_rows (ways left rows E s) (left == 0) s rows c.in-Group.here) c.loop-step.rest ≡ None = rw c.in_default-pick.is at (c.pick.ensures.way (ways left rows E s) of) in
    sym (goes_none rows E s whole c.loop-step.way.items (c.args.n - c.loop-step.step) left c.in-Group.here c.loop-step.rest (omega arith) on none)

pub loop-step-preserved : goal.loop-step-preserved
loop-step-preserved c =
    let rows = c.args.rows.now in
    let s = c.args.person in
    let left = c.args.n - 1 - c.loop-step.step in
    let n = c.requires.n in
    let items : c.push.new.self.items ≡ c.loop-step.way.items ++ c.index-rows-place.result ∷ [] = c.in_ok-push.ensures.items in
    let at = c.in-Some.ensures.place in
    let few = c.loop-step.invariant.0 in
    rw items (
      omega (arith, at, few),
      λ E all.
          let whole = slice_get (ways c.args.n rows E s c.args.group) c.args.k in
          let of : AreOf (ways left rows E s) c.index-levels-left.result = level_at (λ m h. ways m rows E s h) c.args.levels.now left c.index-levels-left.result all (omega (arith, n)) c.index-levels-left.is in
          let on : GoesOn rows E s whole c.loop-step.way.items (c.args.n - c.loop-step.step) (Group c.in-Group.here) c.loop-step.rest = rw c.in-Group.is at (c.loop-step.invariant.1 E all) in
          let picks : Picks (ways left rows E s) (left == 0) s rows (by_rows (ways left rows E s) (left == 0) s rows c.in-Group.here) c.loop-step.rest c.in-Some.place c.in-Some.next = rw c.in-Some.is at (c.pick.ensures.way (ways left rows E s) of) in
          goes_more rows E s whole c.loop-step.way.items (c.args.n - c.loop-step.step) left c.in-Group.here c.loop-step.rest c.in-Some.place c.in-Some.next c.index-rows-place.result (c.args.n - (c.loop-step.step + 1)) (omega arith) (omega arith) on picks at.0 c.index-rows-place.is,
    )

pub returns-then-rest-count_onward : goal.returns-then-rest-count_onward
returns-then-rest-count_onward c = λ E all.
    let rows = c.args.rows.now in
    let s = c.args.person in
    let n = c.requires.n in
    let whole = slice_get (ways c.args.n rows E s c.args.group) c.args.k in
    let of : AreOf (ways 0 rows E s) c.index-levels-0.result = level_at (λ m h. ways m rows E s h) c.args.levels.now 0 c.index-levels-0.result all (omega (arith, n)) c.index-levels-0.is in
    ap Some c.new.ensures
    ∙ goes_whole rows E s whole c.loop-step.way.items (c.args.n - c.loop-step.step) c.loop-step.member c.loop-step.rest c.count_onward.result (omega arith) (c.loop-step.invariant.1 E all) (c.count_onward.ensures (ways 0 rows E s) of) c.if-rest-count_onward.true

pub returns : goal.returns
returns c = λ E all.
    let rows = c.args.rows.now in
    let s = c.args.person in
    let n = c.requires.n in
    let whole = slice_get (ways c.args.n rows E s c.args.group) c.args.k in
    let of : AreOf (ways 0 rows E s) c.index-levels-0.result = level_at (λ m h. ways m rows E s h) c.args.levels.now 0 c.index-levels-0.result all (omega (arith, n)) c.index-levels-0.is in
    goes_nowhere rows E s whole c.loop-step.way.items (c.args.n - c.loop-step.step) c.loop-step.member c.loop-step.rest c.count_onward.result (omega arith) (c.loop-step.invariant.1 E all) (c.count_onward.ensures (ways 0 rows E s) of) c.if-rest-count_onward.false c.loop-step.invariant.0
