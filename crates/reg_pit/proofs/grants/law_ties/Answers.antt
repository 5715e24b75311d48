use Rattle.std.proofs.lemmas.Cmp.{eq_by_cmp_equiv}
use Rattle.reg_pit.proofs.grants.law_ties.Goals as goal

pub returns-clause-same : goal.returns-clause-same
returns-clause-same g c = (eq_by_cmp_equiv g.met.K.Ord.total).refl

pub returns-clause-turned : goal.returns-clause-turned
returns-clause-turned g c = (eq_by_cmp_equiv g.met.K.Ord.total).symm
