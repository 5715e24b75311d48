use Rattle.std.proofs.Common.{◌+◌, arith, refl}
use Rattle.reg_terms.proofs.Placing.{more_placed, new_free}
use Rattle.reg_terms.proofs.many_values.ManyValues.push.Goals as goal

pub push-requires : goal.push-requires
push-requires c = record { free = new_free c.digest-digest.result c.self.inside.next c.self.inside.rows c.self.invariant }

pub invariant_of-self-2 : goal.invariant_of-self-2
invariant_of-self-2 c =
    let below = c.if-number-ge-MOST_NUMBERS.false in
    rw c.in_ok-push.ensures.added (more_placed c.self.inside.next (c.self.inside.next + 1) c.self.inside.rows
    (record { digest = c.digest-digest.result; number = c.self.inside.next; value = c.args.value }) c.self.invariant refl c.digest-digest.ensures.is refl (omega (arith, below)))
