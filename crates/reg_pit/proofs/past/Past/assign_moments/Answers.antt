use Rattle.reg_pit.proofs.Changes.{zero_first, moments_by, moments_between}
use Rattle.reg_pit.proofs.past.Past.assign_moments.Goals as goal

pub returns-clause-first : goal.returns-clause-first
returns-clause-first c = zero_first c.in_ok-moments.moments.items c.in_ok-moments.ensures.ascending (c.in_ok-moments.ensures.each 0)

pub returns-clause-noted : goal.returns-clause-noted
returns-clause-noted c now noted = moments_by now c.args.owner c.args.self.now.assigns c.in_ok-moments.moments.items noted.assigns c.in_ok-moments.ensures

pub returns-clause-constant : goal.returns-clause-constant
returns-clause-constant c u t w none = moments_between u t w c.args.owner c.args.self.now.assigns c.in_ok-moments.moments.items c.in_ok-moments.ensures none
