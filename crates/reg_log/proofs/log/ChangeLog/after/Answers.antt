use Rattle.std.proofs.Common.{◌≡◌, ◌∙◌, length, arith, add-one}
use Rattle.reg_log.specs.Stretches.{Begin}
use Rattle.reg_log.proofs.Runs.{begun_at_most, one_more_given, all_given, moment_known}
use Rattle.reg_log.proofs.log.ChangeLog.after.Goals as goal

pub moment_begun-requires : goal.moment_begun-requires
moment_begun-requires c = rw c.loop-line.invariant.count (begun_at_most c.loop-line.seq c.as_slice-stretches.result.now)

pub loop-line-preserved : goal.loop-line-preserved
loop-line-preserved c =
    let begin : Begin 0 c.as_slice-stretches.result.now (length c.self.inside.lines.items) = rw c.as_slice-stretches.ensures.value c.self.invariant in
    let at = moment_known c.moment_begun.result c.loop-line.begun c.loop-line.seq (length c.self.inside.lines.items) c.as_slice-stretches.result.now begin c.loop-line.invariant.count c.moment_begun.ensures in
    record {
      at = omega (arith, c.loop-line.invariant.at);
      fits = c.loop-line.invariant.fits;
      count = rw add-one c.count_next-begun.ensures;
      rest = rw c.in_ok-put.ensures (one_more_given c.loop-line.entries.items _ c.loop-line.seq c.loop-line.line-index c.moment_begun.result c.as_slice-stretches.result.now _ _ c.loop-line-test.true at c.loop-line.invariant.rest);
    }

pub returns : goal.returns
returns c =
    let count : c.len-count.result ≡ length c.self.inside.lines.items = c.len-count.ensures ∙ c.self.inside.lines.ok.0 in
    rw (← c.self.view_is, ← c.as_slice-stretches.ensures.value, ← c.deref.ensures.value) (all_given c.args.place c.args.max c.len-count.result c.min-seq.result c.min.result c.loop-line.line-index c.loop-line.seq c.as_slice-stretches.result.now c.deref.result.now c.loop-line.entries.items (rw c.deref.ensures.value count) c.min-seq.ensures c.min.ensures c.loop-line-test.false c.loop-line.invariant.rest)
