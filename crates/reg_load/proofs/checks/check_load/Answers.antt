use Rattle.std.proofs.Common.{◌≡◌, ◌∙◌, ◌+◌, [], Some, None, false, rules, sym}
use Rattle.reg_load.specs.Finding.{number_of}
use Rattle.reg_load.specs.LoadChecks.{created_number, first_missing, first_taken, is_elsewhere}
use Rattle.reg_load.proofs.Found.{numbers_are, same_missing, taken_told}
use Rattle.reg_load.proofs.checks.check_load.Goals as goal

-- nothing that is added is missing, all created names are at home, and one of them is taken
pub returns-in-Some : goal.returns-in-Some
returns-in-Some c =
    let next : c.from.result + 1 ≡ c.args.facts.now.made.groups + 1 = search rules in
    let found : first_missing c.args.job.now (number_of c.in_ok-numbers.numbers) c.args.facts.now c.args.added.now ≡ None = search rules in
    let same = same_missing c.args.job.now (number_of c.in_ok-numbers.numbers) (created_number c.args.created.now c.args.facts.now) c.args.facts.now (numbers_are c.in_ok-numbers.numbers c.args.created.now (c.from.result + 1) c.args.facts.now c.in_ok-numbers.ensures next) c.args.added.now in
    let home : is_elsewhere c.args.job.now c.args.facts.now c.args.created.now ≡ false = search rules in
    let taken : first_taken [] c.args.facts.now c.args.created.now ≡ Some c.in-Some.object = search rules in
    taken_told c.args.job.now c.args.created.now c.args.removed.now c.args.added.now c.args.facts.now c.in-Some.object (sym same ∙ found) home taken
