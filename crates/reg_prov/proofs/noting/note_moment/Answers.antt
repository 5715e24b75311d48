use Rattle.reg_prov.specs.Spans.{wished}
use Rattle.reg_prov.proofs.Noted.{stay_noted, turn_noted_on}
use Rattle.reg_prov.proofs.noting.note_moment.Goals as goal

pub returns-in-Some-change_in-clause-noted : goal.returns-in-Some-change_in-clause-noted
returns-in-Some-change_in-clause-noted c =
    turn_noted_on c.set.result (wished c.args.grants.now c.args.members.now) c.args.boundaries.now c.args.pair.now.group c.args.pair.now.subject c.args.moment c.requires.0 c.requires.1 c.in-Some.boundary.now c.in-Some-change_in.on c.args.turns.now c.set.new.self c.requires.2 c.in-Some.ensures c.in-Some-change_in.ensures c.set.ensures

pub returns-in-None-clause-noted : goal.returns-in-None-clause-noted
returns-in-None-clause-noted c test noted =
    stay_noted (wished c.args.grants.now c.args.members.now) c.args.boundaries.now c.args.pair.now.group c.args.pair.now.subject c.args.moment c.requires.0 c.requires.1 c.requires.2 c.in-Some.boundary.now c.in-Some.ensures test c.args.turns.now noted c.in-None.ensures
