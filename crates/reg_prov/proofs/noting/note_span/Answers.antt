use Rattle.reg_prov.specs.Spans.{wished}
use Rattle.reg_prov.proofs.Noted.{span_noted_on}
use Rattle.reg_prov.proofs.noting.note_span.Goals as goal

pub returns-in-Some-clause-noted : goal.returns-in-Some-clause-noted
returns-in-Some-clause-noted c =
    span_noted_on c.note_moment-in-Some.result (wished c.args.grants.now c.args.members.now) c.args.boundaries.now c.args.pair.now.group c.args.pair.now.subject c.args.span.now c.in-Some.end c.args.turns.now c.note_moment.new.turns c.note_moment-in-Some.new.turns c.in-Some.is
    c.in_ok-note_moment.ensures.noted c.note_moment-in-Some.ensures.noted
