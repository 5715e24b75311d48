use Rattle.std.proofs.Common.{◌≡◌, ◌+◌, ℕ, List, drop}
use Rattle.std.specs.Option.{option_or}
use Rattle.reg_load.specs.Finding.{number_of}
use Rattle.reg_load.specs.LoadChecks.{created_id}
use Rattle.reg_load.proofs.created.CreatedNames.of.Given as goal

-- what has a number so far, and else what the rest will have
abbrev pub invariant-loop-name : goal.invariant-loop-name
invariant-loop-name l = record {
  next : l.next ≡ l.first + l.name-index;
  found : (text : List ℕ) → option_or (number_of l.names text) (created_id (drop l.name-index l.created) l.next text) ≡ created_id l.created l.first text;
}
