-- Who is wanted for a provisioner, and the batches of a machine's log.
use Rattle.std.specs.Prelude.{◌&&◌, ℕ, List, Bool}
use Rattle.reg_base.specs.declared.privilege.Privilege.TheVariants.{Read}
use Rattle.reg_terms.specs.declared.command.Stamped.{Stamped}
use Rattle.reg_terms.specs.declared.kinds.Holder.TheVariants.{Person}
use Rattle.reg_terms.specs.declared.kinds.Object.TheVariants.{Group}
use Rattle.reg_machine.specs.Past.{log, moments_of, was_granted, was_member}
use Rattle.reg_prov.specs.declared.target.TargetOp.{TargetOp}
use Rattle.reg_prov.specs.Batches.{IsBatchOf}
use Rattle.reg_prov.specs.Turns.{wanted_at}

-- a pair of a group and a person is wanted for a provisioner at a moment: the provisioner itself
-- held READ on the group, by a grant or an inherit, and the person was a member
abbrev pub wants : List Stamped → ℕ → ℕ → ℕ → ℕ → Bool
wants history provisioner t g s =
    was_granted history t (Group g) Read (Person provisioner) && was_member history t g s

-- the moments of the log's entries
abbrev pub log_moments : List Stamped → ℕ → List ℕ
log_moments history clock = moments_of (log history clock)

-- what is wanted at a boundary of the log
abbrev pub wish_of : List Stamped → ℕ → ℕ → ℕ → ℕ → ℕ → Bool
wish_of history clock provisioner =
    wanted_at (wants history provisioner) (log_moments history clock)

-- the operations from a place in the log on, and where they end
abbrev pub IsBatch : List Stamped → ℕ → ℕ → ℕ → ℕ → List TargetOp → ℕ → Type 0
IsBatch history clock place provisioner most ops end =
    IsBatchOf (wants history provisioner) (log_moments history clock) clock place most ops end
