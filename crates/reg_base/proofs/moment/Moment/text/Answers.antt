use Rattle.std.proofs.Common.{arith}
use Rattle.reg_base.specs.MomentText.{text_of}
use Rattle.reg_base.proofs.Texts.{text_of_reads}
use Rattle.reg_base.proofs.moment.Moment.text.Goals as goal

pub returns-clause-read_back : goal.returns-clause-read_back
unfolding text_of
returns-clause-read_back c = rw (c.stamp.ensures, c.day_of-day.ensures.value, c.micros.ensures, c.micros-2.ensures) (text_of_reads c.args.self (omega (arith, c.well_formed)))
