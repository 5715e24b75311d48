use Rattle.std.proofs.Common.{rules, ◌≡◌, Some}
use Rattle.reg_facts.specs.Naming.{group_id}
use Rattle.reg_report.proofs.Standing.{group_stands}
use Rattle.reg_report.proofs.asked.group_found.Goals as goal

pub returns-in-Some-clause-stands : goal.returns-in-Some-clause-stands
returns-in-Some-clause-stands c =
    let found : group_id c.args.name.now c.args.facts.now ≡ Some c.in-Some.id = search rules in
    group_stands c.args.facts.now c.law_grants.ensures.holders c.args.name.now c.in-Some.id found
