-- What stands before the first command.
use Rattle.std.proofs.Common.{◌≡◌, ℕ, [], refl}
use Rattle.std.proofs.lemmas.List.Sorted.{IsPermutation-refl}
use Rattle.reg_facts.specs.Lists as the_facts
use Rattle.reg_facts.specs.Lists.{Lists}
use Rattle.reg_effect.specs.Changes.{nothing}
use Rattle.reg_effect.specs.Standing.{standing}
use Rattle.reg_current.specs.declared.dates.Dates.{Dates}
use Rattle.reg_current.specs.Coming.{FindsDates}
use Rattle.reg_current.specs.Invariant.{IsBeside}

pub start_beside : (dates : Dates) → ((clock : ℕ) (f : Lists) → f.rows ≡ [] → f.grants ≡ [] → FindsDates dates clock f) → IsBeside 0 the_facts.start nothing [] dates
unfolding standing
start_beside dates none = record { sets = refl; edges = IsPermutation-refl []; ends = tt; grants_open = tt; coming = none 0 the_facts.start refl refl }
