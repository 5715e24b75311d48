use Rattle.std.proofs.Common.{◌∙◌, ap}
use Rattle.std.specs.List.{list_any}
use Rattle.reg_reasons.specs.Ways.{begun}
use Rattle.reg_reasons.proofs.Exact.{found, has_reason, taken}
use Rattle.reg_reasons.proofs.Levels.{member_level}
use Rattle.reg_reasons.proofs.Standing.{on_any}
use Rattle.reg_reasons.proofs.laws.law_reasons.Goals as goal

pub returns-clause-has : goal.returns-clause-has
returns-clause-has g c = λ at rows h s e. has_reason (g.K.Kept.held c.args.kept.now) c.live-live.ensures.no_circle s (begun at rows) (λ P. ap (list_any P) e ∙ on_any P at rows) h

pub returns-clause-exact : goal.returns-clause-exact
returns-clause-exact g c = λ at rows h s way e. (
  taken (g.K.Kept.held c.args.kept.now) c.live-live.ensures.no_circle s (begun at rows) (λ P. ap (list_any P) e ∙ on_any P at rows) h way,
  found (g.K.Kept.held c.args.kept.now) c.live-live.ensures.no_circle s (begun at rows) (λ P. ap (list_any P) e ∙ on_any P at rows) h way,
)

pub returns-clause-by_factors : goal.returns-clause-by_factors
returns-clause-by_factors g c = λ h s t. rw t at (member_level (g.K.Kept.held c.args.kept.now) c.live-live.ensures.no_circle h s)
