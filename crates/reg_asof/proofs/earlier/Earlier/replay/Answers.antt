use Rattle.std.proofs.Common.{◌≡◌, ◌∙◌, ℕ, Err, arith}
use Rattle.reg_machine.specs.History.{start}
use Rattle.reg_keep.specs.declared.open.OpenFault.TheVariants.{Damaged}
use Rattle.reg_service.specs.Opening.{judged}
use Rattle.reg_session.proofs.Halting.{err_by}
use Rattle.reg_asof.proofs.Past.{clock_by, front_damaged, replayed}
use Rattle.reg_asof.proofs.earlier.Earlier.replay.Goals as goal

-- a record up to the moment is damaged
pub returns-in_err-machine-clause-damaged : goal.returns-in_err-machine-clause-damaged
returns-in_err-machine-clause-damaged c =
    err_by (λ e. (place : ℕ) → e ≡ Damaged place → judged start c.args.records ≡ Err place) c.from_residual.result c.in_err-machine.field-0.0 c.from_residual.ensures.1
    (λ place is. front_damaged c.args.at start place c.args.records (rw c.in-Ok.ensures at (c.in_err-machine.ensures.damaged place is)))

-- the clock isn't past the moment
pub advance-requires : goal.advance-requires
advance-requires c = clock_by c.args.at start c.in_ok-machine.machine c.args.records (omega arith) (rw c.in-Ok.ensures at c.in_ok-machine.ensures.ok)

-- and so is the registry as it was
pub returns-in-Ok-advance-clause-ok : goal.returns-in-Ok-advance-clause-ok
returns-in-Ok-advance-clause-ok c s judged = c.in-Ok-advance.ensures ∙ replayed c.args.at c.in_ok-machine.machine s c.args.records (rw c.in-Ok.ensures at c.in_ok-machine.ensures.ok) judged
