use Rattle.std.proofs.Common.{◌≡◌, ◌∙◌, ◌+◌, rules}
use Rattle.reg_load.specs.Finding.{number_of}
use Rattle.reg_load.specs.LoadChecks.{created_number}
use Rattle.reg_load.proofs.Found.{numbers_are, same_missing, same_rows}
use Rattle.reg_load.proofs.LoadSuits.{checks_told}
use Rattle.reg_load.proofs.finding.added_rows.Goals as goal

pub the_rows-requires : goal.the_rows-requires
the_rows-requires c =
    let next : c.from.result + 1 ≡ c.args.facts.now.made.groups + 1 = search rules in
    same_missing c.args.job.now (number_of c.in_ok-numbers.numbers) (created_number c.args.created.now c.args.facts.now) c.args.facts.now (numbers_are c.in_ok-numbers.numbers c.args.created.now (c.from.result + 1) c.args.facts.now c.in_ok-numbers.ensures next) c.args.added.now
    ∙ (checks_told c.args.job.now c.args.created.now c.args.removed.now c.args.added.now c.args.facts.now c.requires).found

pub returns : goal.returns
returns c =
    let next : c.from.result + 1 ≡ c.args.facts.now.made.groups + 1 = search rules in
    rw (← same_rows c.args.job.now (number_of c.in_ok-numbers.numbers) (created_number c.args.created.now c.args.facts.now) c.args.facts.now (numbers_are c.in_ok-numbers.numbers c.args.created.now (c.from.result + 1) c.args.facts.now c.in_ok-numbers.ensures next) c.args.added.now) c.the_rows.ensures
