use Rattle.std.proofs.Common.{◌≡◌, ◌++◌, drop, map}
use Rattle.reg_load.specs.Finding.{number_of}
use Rattle.reg_load.specs.LoadChecks.{first_missing, load_group, load_row}
use Rattle.reg_load.proofs.finding.find_rows.Given as goal

-- the rows so far and the rest are all, nothing was missing so far, and the last group's number is known
abbrev pub invariant-loop-row : goal.invariant-loop-row
invariant-loop-row l = record {
  items : l.found.items ++ map (load_row l.job (number_of l.created) l.facts) (drop l.row-index l.rows) ≡ map (load_row l.job (number_of l.created) l.facts) l.rows;
  missing : first_missing l.job (number_of l.created) l.facts (drop l.row-index l.rows) ≡ first_missing l.job (number_of l.created) l.facts l.rows;
  last : l.number ≡ load_group l.job (number_of l.created) l.facts l.name;
}
