use Rattle.std.proofs.Common.{arith, sym, ap, Some}
use Rattle.reg_base.proofs.Days.{date_number}
use Rattle.reg_base.proofs.calendar.day_number.Goals as goal

pub overflow_sub-result : goal.overflow_sub-result
overflow_sub-result c = omega (arith, (date_number c.in-Ok.date c.args.year c.args.month c.args.day c.days_since_min.result c.in-Ok.ensures.value (omega arith) (omega arith) (omega arith) (omega arith) (rw (← c.to_plain.ensures) c.days_since_min.ensures.value)).0)

pub returns-in-Ok-clause-value : goal.returns-in-Ok-clause-value
returns-in-Ok-clause-value c =
    let known = date_number c.in-Ok.date c.args.year c.args.month c.args.day c.days_since_min.result c.in-Ok.ensures.value (omega arith) (omega arith) (omega arith) (omega arith) (rw (← c.to_plain.ensures) c.days_since_min.ensures.value) in
    rw known.2 (ap (λ n. Some n) (sym known.3))
