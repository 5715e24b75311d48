use Rattle.std.proofs.Common.{rules, ◌≡◌, Some}
use Rattle.reg_facts.specs.Edits.{subject_id}
use Rattle.reg_report.proofs.Standing.{person_stands}
use Rattle.reg_report.proofs.asked.person_of.Goals as goal

pub returns-in-Some-clause-stands : goal.returns-in-Some-clause-stands
returns-in-Some-clause-stands c =
    let found : subject_id c.args.text.now c.args.facts.now.subjects ≡ Some c.in-Some.id = search rules in
    person_stands c.args.facts.now c.law_grants.ensures.holders c.args.text.now c.in-Some.id found
