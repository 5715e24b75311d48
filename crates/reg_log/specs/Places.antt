-- How far each consumer has read.
use Rattle.std.specs.Prelude.{ℕ, List, Option}
use Rattle.std.specs.Ordering.{nat_cmp}
use Rattle.std.specs.Cmp.Lexicographic.{slice_cmp}
use Rattle.std.specs.BTreeMap.{get_by}
use Rattle.reg_log.specs.declared.consumers.Places.{Places}

-- the place of the consumer of a name
abbrev pub place_of : Places → List ℕ → Option ℕ
place_of places name = get_by (λ k. slice_cmp nat_cmp name k.items) places.places
