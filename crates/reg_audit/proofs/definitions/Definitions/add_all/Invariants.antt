use Rattle.std.proofs.Common.{◌≡◌, ℕ, drop}
use Rattle.reg_audit.specs.Definitions.{last_definition}
use Rattle.reg_audit.specs.Kept.{defined_in}
use Rattle.reg_audit.proofs.definitions.Definitions.add_all.Given as goal

abbrev pub invariant-loop-pair : goal.invariant-loop-pair
invariant-loop-pair l = (a : ℕ) → last_definition a (defined_in l.self a) (drop l.pair-index l.made) ≡ last_definition a (defined_in l.fn.self a) l.made
