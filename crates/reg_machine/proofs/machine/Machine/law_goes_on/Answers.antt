use Rattle.std.proofs.Common.{◌≡◌, ap}
use Rattle.reg_effect.specs.Member.{member}
use Rattle.reg_facts.specs.Attributes.{assigns_on}
use Rattle.reg_facts.specs.Lists.{Lists}
use Rattle.reg_pit.specs.Grants.{has_grant}
use Rattle.reg_priv.specs.Grants.{grants}
use Rattle.reg_machine.specs.History.{facts}
use Rattle.reg_current.specs.Live.{live}
use Rattle.reg_machine.proofs.Lived.{facts_before}
use Rattle.reg_machine.proofs.machine.Machine.law_goes_on.Goals as goal

pub returns-clause-members : goal.returns-clause-members
returns-clause-members g c after t group s are later less =
    let same : facts c.args.later.now.history t ≡ facts c.args.self.now.history t = rw are (facts_before c.args.self.now.history after c.args.self.now.clock t later less) in
    ap (λ (f : Lists). member (live t f) group s) same

pub returns-clause-granted : goal.returns-clause-granted
returns-clause-granted g c after t o p h are later less =
    let same : facts c.args.later.now.history t ≡ facts c.args.self.now.history t = rw are (facts_before c.args.self.now.history after c.args.self.now.clock t later less) in
    ap (λ (f : Lists). has_grant (grants o f) p h) same

pub returns-clause-assigned : goal.returns-clause-assigned
returns-clause-assigned g c after t o are later less =
    let same : facts c.args.later.now.history t ≡ facts c.args.self.now.history t = rw are (facts_before c.args.self.now.history after c.args.self.now.clock t later less) in
    ap (λ (f : Lists). assigns_on o f.assigns) same

pub returns-clause-stays : goal.returns-clause-stays
returns-clause-stays g c after t are later less = rw are (facts_before c.args.self.now.history after c.args.self.now.clock t later less)
