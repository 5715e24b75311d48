use Rattle.std.proofs.Common.{◌≡◌, ◌+◌, ◌-◌, ◌/◌, ◌%◌, ◌≤◌, ◌<◌, ◌^◌, ◌∷◌, [], ℕ, decimal, length, arith, ap, ◌∙◌, length-append, append_assoc}
use Rattle.std.proofs.lemmas.Fmt.{decimal_digit, decimal_step, decimal_nonempty, length-decimal-le}
use Rattle.std.proofs.lemmas.List.{drop-set, length-set}
use Rattle.reg_run.proofs.status.put_digits.Goals as goal

-- a number of 64 bits has at most 20 digits, and so there is a place for each
room : (n : ℕ) → n < 2 ^ 64 → length (decimal n) ≤ 20
room n fits = length-decimal-le 20 n (omega arith) (omega (arith, fits)) fits

pub overflow_sub-at : goal.overflow_sub-at
overflow_sub-at c = omega (arith, room c.args.number c.ranges.number.fits, decimal_nonempty c.loop-left.left c.loop-left.auto.left-fits.fits)

pub overflow_sub-at-2 : goal.overflow_sub-at-2
overflow_sub-at-2 c = omega (arith, room c.args.number c.ranges.number.fits, decimal_nonempty c.loop-left.left c.loop-left.auto.left-fits.fits)

-- one digit more was put
pub loop-left-preserved : goal.loop-left-preserved
loop-left-preserved c =
    let l = c.loop-left in
    let some = decimal_nonempty l.left l.auto.left-fits.fits in
    let step = decimal_step l.left (omega arith) l.auto.left-fits.fits in
    let next : l.at - 1 + 1 ≡ l.at = omega (arith, room c.args.number c.ranges.number.fits, some) in (
      omega arith,
      omega (arith, length-set l.buffer (l.at - 1) (48 + l.left % 10)),
      omega (arith, next, ap length step ∙ length-append (decimal (l.left / 10)) ((48 + l.left % 10) ∷ [])),
      rw (drop-set l.buffer (l.at - 1) _ (omega arith), next) (rw (step, append_assoc) at l.invariant.3),
    )

-- the first one is the last to be put
pub returns-clause-begins : goal.returns-clause-begins
returns-clause-begins c =
    let l = c.loop-left in
    let some = decimal_nonempty l.left l.auto.left-fits.fits in
    let next : l.at - 1 + 1 ≡ l.at = omega (arith, room c.args.number c.ranges.number.fits, some) in
    omega (arith, next, ap length (decimal_digit l.left (omega arith)))

pub returns-clause-digits : goal.returns-clause-digits
returns-clause-digits c =
    let l = c.loop-left in
    let some = decimal_nonempty l.left l.auto.left-fits.fits in
    let next : l.at - 1 + 1 ≡ l.at = omega (arith, room c.args.number c.ranges.number.fits, some) in
    rw (drop-set l.buffer (l.at - 1) _ (omega arith), next) (rw (decimal_digit l.left (omega arith)) at l.invariant.3)
