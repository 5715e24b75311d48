use Rattle.std.proofs.Common.{subst}
use Rattle.reg_asof.specs.Lawful.{IsLawful}
use Rattle.reg_asof.proofs.Joining.{members}
use Rattle.reg_asof.proofs.JoiningGroups.{groups}
use Rattle.reg_asof.proofs.JoiningObjects.{attributes, grants, may}
use Rattle.reg_asof.proofs.earlier.Earlier.law_as_by_intervals.Goals as goal

pub returns-clause-members : goal.returns-clause-members
returns-clause-members g c earlier = members c.args.self.now c.args.later.now earlier (subst IsLawful c.self.view_is c.law_lawful.ensures) c.law_lawful-2.ensures

pub returns-clause-groups : goal.returns-clause-groups
returns-clause-groups g c earlier = groups c.args.self.now c.args.later.now earlier (subst IsLawful c.self.view_is c.law_lawful.ensures) c.law_lawful-2.ensures

pub returns-clause-grants : goal.returns-clause-grants
returns-clause-grants g c earlier = grants c.args.self.now c.args.later.now earlier (subst IsLawful c.self.view_is c.law_lawful.ensures) c.law_lawful-2.ensures

pub returns-clause-may : goal.returns-clause-may
returns-clause-may g c earlier = may c.args.self.now c.args.later.now earlier (subst IsLawful c.self.view_is c.law_lawful.ensures) c.law_lawful-2.ensures c.law_powers.ensures

pub returns-clause-attributes : goal.returns-clause-attributes
returns-clause-attributes g c earlier = attributes c.args.self.now c.args.later.now earlier (subst IsLawful c.self.view_is c.law_lawful.ensures) c.law_lawful-2.ensures
