use Rattle.std.proofs.Common.{refl}
use Rattle.reg_pit.specs.Past.{was_member}
use Rattle.reg_pit.proofs.Until.{are_until}
use Rattle.reg_pit.proofs.past.Past.spans.Goals as goal

pub returns-clause-until : goal.returns-clause-until
returns-clause-until c test now noted told = are_until (was_member c.args.self.now c.args.g c.args.s) test now c.in_ok-spans.spans.items c.in_ok-spans.ensures.spans (rw c.in_ok-spans.ensures.value (noted.members (c.args.g, c.args.s))) (λ t. rw c.in_ok-spans.ensures.value refl) told
