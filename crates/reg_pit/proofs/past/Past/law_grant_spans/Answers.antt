use Rattle.std.proofs.Common.{refl}
use Rattle.reg_pit.specs.Past.{grant_spans, was_granted}
use Rattle.reg_pit.proofs.Until.{are_until}
use Rattle.reg_pit.proofs.past.Past.law_grant_spans.Goals as goal

pub returns : goal.returns
returns c test now o p h noted told = are_until (was_granted c.args.self.now o p h) test now (grant_spans c.args.self.now o p h) (c.law_spans.ensures (o, p, h)) (noted.grants (o, p, h)) (λ t. refl) told
