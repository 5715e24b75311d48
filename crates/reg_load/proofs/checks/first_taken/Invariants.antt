use Rattle.std.proofs.Common.{◌≡◌, [], drop}
use Rattle.std.specs.Prelude.{is_some}
use Rattle.reg_load.specs.Finding.{number_of}
use Rattle.reg_load.specs.LoadChecks.{first_taken}
use Rattle.reg_load.proofs.Found.{taken_by}
use Rattle.reg_load.proofs.checks.first_taken.Given as goal

-- none so far, so it is the first of the rest that stands or was seen
abbrev pub invariant-loop-name : goal.invariant-loop-name
invariant-loop-name l = taken_by (λ text. is_some (number_of l.seen text)) l.facts (drop l.name-index l.created) ≡ first_taken [] l.facts l.created
