use Rattle.std.proofs.Common.{◌≡◌, ◌<◌, get_or, arith, sym, ◌∙◌}
use Rattle.std.proofs.lemmas.Bool.{and_from}
use Rattle.std.specs.Char.{is_ascii_digit, digit_value}
use Rattle.std.proofs.lemmas.Bool.Decides.{nat_tests}
use Rattle.std.proofs.lemmas.Int.Digits.{digits_value_more}
use Rattle.std.proofs.lemmas.List.Folds.{list_all_more}
use Rattle.reg_http.proofs.Digits.{next_small, next_fits}
use Rattle.reg_http.proofs.fields.length_in.Goals as goal

pub overflow_mul-number : goal.overflow_mul-number
overflow_mul-number c =
    omega (arith, next_fits c.loop-digit.digit-index c.loop-digit.number 0 c.loop-digit.invariant.small (omega arith) (omega arith))

pub overflow_add-number : goal.overflow_add-number
overflow_add-number c =
    let below : c.from.result < 10 = grind (arith, nat_tests) in
    omega (arith, next_fits c.loop-digit.digit-index c.loop-digit.number c.from.result c.loop-digit.invariant.small below (omega arith))

pub loop-digit-preserved : goal.loop-digit-preserved
loop-digit-preserved c =
    let below : c.from.result < 10 = grind (arith, nat_tests) in
    let digit : digit_value (get_or c.args.text.now c.loop-digit.digit-index 0) ≡ c.from.result = grind (arith, nat_tests) in record {
      value = omega (arith, digits_value_more 10 c.args.text.now _ c.loop-digit-test.true, c.loop-digit.invariant.value);
      digits = list_all_more is_ascii_digit c.args.text.now _ 0 c.loop-digit-test.true ∙ and_from _ _ c.loop-digit.invariant.digits (sym c.if-not-is_ascii_digit.ensures.value);
      small = next_small _ _ _ c.loop-digit.invariant.small below;
    }
