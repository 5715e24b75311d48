use Rattle.std.proofs.Common.{◌<◌, ◌∙◌, ◌||◌, arith, length, take}
use Rattle.reg_prov.specs.Notes.{reached}
use Rattle.reg_prov.specs.Spans.{limits_of, wished}
use Rattle.reg_prov.proofs.Noted.{spans_noted}
use Rattle.reg_prov.proofs.noting.note_spans.Goals as goal

pub loop-span-preserved : goal.loop-span-preserved
loop-span-preserved c =
    let inside : c.loop-span.span-index < length c.args.spans.now = omega arith in (
      λ test noted. spans_noted (wished c.args.grants.now c.args.members.now) c.args.boundaries.now c.args.pair.now.group c.args.pair.now.subject c.args.spans.now c.loop-span.span-index c.span-item.result test c.note_span.new.turns inside c.span-item.is
          (c.in_ok-note_span.ensures.noted (λ n. test n || reached c.args.boundaries.now n (limits_of (take c.loop-span.span-index c.args.spans.now))) (c.loop-span.invariant.0 test noted)),
      λ n g s e. c.in_ok-note_span.ensures.others n g s e ∙ c.loop-span.invariant.1 n g s e,
    )
