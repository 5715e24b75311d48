use Rattle.std.proofs.Common.{◌≡◌, drop}
use Rattle.reg_load.specs.LoadChecks.{is_elsewhere}
use Rattle.reg_load.proofs.checks.is_elsewhere.Given as goal

-- all so far are at home, so it is up to the rest
abbrev pub invariant-loop-name : goal.invariant-loop-name
invariant-loop-name l = is_elsewhere l.job l.facts (drop l.name-index l.created) ≡ is_elsewhere l.job l.facts l.created
