use Rattle.std.proofs.Common.{◌∙◌}
use Rattle.reg_load.specs.Finding.{number_of}
use Rattle.reg_load.specs.LoadChecks.{no_number}
use Rattle.reg_load.proofs.Found.{same_missing, same_rows}
use Rattle.reg_load.proofs.finding.removed_rows.Goals as goal

pub the_rows-requires : goal.the_rows-requires
the_rows-requires c = same_missing c.args.job.now (number_of c.new-none.result) no_number c.args.facts.now c.new-none.ensures c.args.removed.now ∙ c.requires

pub returns : goal.returns
returns c = rw (← same_rows c.args.job.now (number_of c.new-none.result) no_number c.args.facts.now c.new-none.ensures c.args.removed.now) c.the_rows.ensures
