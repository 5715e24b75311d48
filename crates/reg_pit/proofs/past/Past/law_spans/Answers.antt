use Rattle.std.proofs.Common.{refl}
use Rattle.reg_pit.specs.Past.{member_spans, was_member}
use Rattle.reg_pit.proofs.Until.{are_until}
use Rattle.reg_pit.proofs.past.Past.law_spans.Goals as goal

pub returns : goal.returns
returns c test now group s noted told = are_until (was_member c.args.self.now group s) test now (member_spans c.args.self.now group s) (c.law_spans.ensures (group, s)) (noted.members (group, s)) (λ t. refl) told
