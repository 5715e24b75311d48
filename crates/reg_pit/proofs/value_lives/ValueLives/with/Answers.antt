use Rattle.std.proofs.Common.{None, refl}
use Rattle.reg_pit.proofs.Numbered.{none_numbered, none_standing, values_more, value_pushed}
use Rattle.reg_pit.proofs.value_lives.ValueLives.with.Goals as goal

pub push-requires : goal.push-requires
push-requires c = record { free = rw c.self.invariant.known (none_standing c.args.assign c.digest-digest.result c.self.inside.next c.self.inside.values c.self.invariant.below) }

pub push-requires-2 : goal.push-requires-2
push-requires-2 c = record { free = none_numbered c.args.assign c.self.inside.next c.self.inside.values c.self.invariant.below }

pub invariant_of-result : goal.invariant_of-result
invariant_of-result c =
    rw (c.in_ok-push-2.ensures.added, c.in_ok-push.ensures.added, c.digest-digest.ensures.is) (values_more c.self.inside.values c.self.inside.standing c.self.inside.next c.in-Some.later
    (record { assign = c.args.assign; number = c.self.inside.next; value = c.args.value; from = c.args.at; until = None }) c.self.invariant c.in-Some.ensures.1 refl refl)

pub returns-clause-added : goal.returns-clause-added
returns-clause-added c a t =
    rw (c.in_ok-push-2.ensures.added, ← c.self.view_is) (value_pushed c.self.inside.values c.args.assign c.self.inside.next c.args.at c.args.value a t)
