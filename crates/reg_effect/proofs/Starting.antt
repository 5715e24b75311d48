-- No rows and no composites.
use Rattle.std.proofs.Common.{[], refl}
use Rattle.reg_effect.specs.Member.{member}
use Rattle.reg_effect.specs.Edges.{edges}
use Rattle.reg_effect.specs.Changes.{nothing}
use Rattle.reg_effect.specs.Invariant.{IsTable, IsKept}

pub starts_table : IsTable nothing []
unfolding member edges
starts_table = record { sets = λ y q. refl; no_circle = λ a b e. cc; well = record { rowless = λ g h. cc; once = tt } }

pub starts_kept : IsKept nothing [] []
unfolding edges
starts_kept = record { table = starts_table; counted = λ a b. refl }
