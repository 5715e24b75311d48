use Rattle.std.proofs.Common.{◌≡◌, drop}
use Rattle.reg_base.specs.MomentText.{fits}
use Rattle.reg_base.proofs.moment_text.fits.Given as goal

-- what is left decides
abbrev pub invariant-loop-place : goal.invariant-loop-place
invariant-loop-place l = fits l.shape l.text ≡ fits (drop l.place l.shape) (drop l.place l.text)
