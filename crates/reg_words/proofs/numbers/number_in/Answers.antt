use Rattle.std.proofs.Common.{◌≡◌, ℕ, ◌+◌, ◌*◌, ◌<◌, None, Some, List, length, get_or, take, arith, sym, ◌∙◌}
use Rattle.std.specs.Prelude.{nat_le}
use Rattle.std.specs.Char.{is_ascii_digit, digit_value}
use Rattle.std.specs.Str.Parse.{digits_value}
use Rattle.std.proofs.lemmas.Bool.{and_from, and_right, cond-false, lt-leb}
use Rattle.std.proofs.lemmas.Bool.Decides.{nat_tests}
use Rattle.std.proofs.lemmas.Int.Digits.{digits_value_more}
use Rattle.std.proofs.lemmas.List.Folds.{list_all_more}
use Rattle.std.proofs.lemmas.Str.Parse.{digits_value-take-le}
use Rattle.reg_words.specs.Numbers.{are_digits, is_number_in, number_in}
use Rattle.reg_words.proofs.numbers.number_in.Goals as goal

-- where the first digits pass the most, all do
too_large : (least most : ℕ) (text : List ℕ) (i : ℕ) → i < length text → most < digits_value 10 (take i text) * 10 + digit_value (get_or text i 0) → None ≡ number_in least most text
too_large least most text i inside large =
    let all : most < digits_value 10 text = omega (arith, digits_value_more 10 text i inside, digits_value-take-le 10 text (i + 1) (omega arith)) in
    sym (cond-false (is_number_in least most text) (Some (digits_value 10 text)) None (and_right (are_digits text) _ (and_right (nat_le least (digits_value 10 text)) _ (lt-leb _ _ all))))

pub returns-then-number-highest : goal.returns-then-number-highest
returns-then-number-highest c =
    let digit : digit_value (get_or c.args.text.now c.loop-digit.digit-index 0) ≡ c.from.result = grind (arith, nat_tests) in
    too_large c.args.least c.args.most c.args.text.now _ c.loop-digit-test.true (omega (arith, digit, c.loop-digit.invariant.value, c.if-number-highest.true))

pub loop-digit-preserved : goal.loop-digit-preserved
loop-digit-preserved c =
    let digit : digit_value (get_or c.args.text.now c.loop-digit.digit-index 0) ≡ c.from.result = grind (arith, nat_tests) in record {
      value = omega (arith, digits_value_more 10 c.args.text.now _ c.loop-digit-test.true, c.loop-digit.invariant.value);
      digits = list_all_more is_ascii_digit c.args.text.now _ 0 c.loop-digit-test.true ∙ and_from _ _ c.loop-digit.invariant.digits (sym c.if-not-is_ascii_digit.ensures.value);
      small = omega (arith, c.if-number-highest.false);
    }
