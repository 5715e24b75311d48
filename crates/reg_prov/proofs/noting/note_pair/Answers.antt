use Rattle.reg_prov.proofs.Noted.{pair_noted_on}
use Rattle.reg_prov.proofs.noting.note_pair.Goals as goal

pub returns-clause-noted : goal.returns-clause-noted
returns-clause-noted c =
    pair_noted_on c.note_spans-2.result c.args.grants.now c.args.members.now c.args.boundaries.now c.args.pair.now.group c.args.pair.now.subject c.requires.chained.0 c.requires.chained.1 c.start.result c.args.turns.now c.note_moment.new.turns c.note_spans.new.turns c.note_spans-2.new.turns
    c.requires.chained.2 c.start.ensures c.requires.new c.in_ok-note_moment.ensures.noted c.in_ok-note_spans.ensures.noted c.note_spans-2.ensures.noted
