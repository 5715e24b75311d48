use Rattle.std.proofs.Common.{refl}
use Rattle.reg_current.proofs.DatesGone.{pass_finds}
use Rattle.reg_current.proofs.dates.Dates.pass.Goals as goal

pub returns : goal.returns
returns c = pass_finds c.args.self.now _ c.args.date c.forget.ensures c.forget-2.ensures refl refl
