use Rattle.std.proofs.Common.{◌≡◌, pos, arith, FitsSigned, w16}
use Rattle.std.proofs.lemmas.Int.{to_z-of_z}
use Rattle.jiff_core.specs.Date.{epoch_day}
use Rattle.jiff_core.proofs.SignedLemmas.{signed_arith}
use Rattle.reg_base.proofs.Days.{date_is}
use Rattle.reg_base.proofs.calendar.day_of.Goals as goal

pub returns-clause-value : goal.returns-clause-value
returns-clause-value c =
    let d = c.from_days_since_min-date.result in
    let day : epoch_day d ≡ pos c.args.days = omega (arith, signed_arith, c.from_days_since_min-date.ensures) in
    let same = date_is d c.args.days c.requires day in
    let fits : FitsSigned w16 d.year = omega (arith, signed_arith, d.year_in) in
    let size = simp to_z-of_z at c.unsigned_abs.ensures.value in
    rw (size, same.0, same.1, same.2)
