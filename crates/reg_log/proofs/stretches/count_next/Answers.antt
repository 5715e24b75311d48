use Rattle.std.proofs.Common.{sym, length}
use Rattle.std.proofs.lemmas.Bool.{ltb-true, ltb-false}
use Rattle.reg_log.proofs.Runs.{next_begun, next_later, next_none}
use Rattle.reg_log.proofs.stretches.count_next.Goals as goal

-- the next one has begun
pub returns-in-Some : goal.returns-in-Some
returns-in-Some c = next_begun c.args.place c.args.count c.requires.order.0 c.args.stretches.now c.in-Some.next.now c.requires.count c.requires.order.1 (ltb-true c.args.count (length c.args.stretches.now) (sym c.in-Some.ensures.lookup.0)) c.in-Some.ensures.lookup.1 c.if-next-place.true

-- the next one begins later
pub returns-in-Some-2 : goal.returns-in-Some-2
returns-in-Some-2 c = next_later c.args.place c.args.count c.requires.order.0 c.args.stretches.now c.in-Some.next.now c.requires.count c.requires.order.1 c.in-Some.ensures.lookup.1 c.if-next-place.false

-- there is no further one
pub returns-in-Some-2-2 : goal.returns-in-Some-2-2
returns-in-Some-2-2 c = next_none c.args.place c.args.count c.requires.order.0 c.args.stretches.now c.requires.count c.requires.order.1 (ltb-false c.args.count (length c.args.stretches.now) (sym c.in-Some-2.ensures.lookup.0))
