use Rattle.std.proofs.Common.{◌≡◌, ℕ, ◌+◌, ◌*◌, ◌<◌, None, Some, List, length, get_or, take, arith, sym, ◌∙◌}
use Rattle.std.specs.Prelude.{nat_le}
use Rattle.std.specs.List.{list_all}
use Rattle.std.specs.Char.{is_ascii_digit, digit_value}
use Rattle.std.specs.Str.Parse.{digits_value}
use Rattle.std.proofs.lemmas.Bool.{and_from, and_right, cond-false, lt-leb}
use Rattle.std.proofs.lemmas.Bool.Decides.{nat_tests}
use Rattle.std.proofs.lemmas.Int.Digits.{digits_value_more}
use Rattle.std.proofs.lemmas.List.Folds.{list_all_more}
use Rattle.std.proofs.lemmas.Str.Parse.{digits_value-take-le}
use Rattle.reg_http.specs.Queries.{is_count, number_of}
use Rattle.reg_http.proofs.query.number_of.Goals as goal

-- where the first digits pass 1,000, all do
too_large : (text : List ℕ) (i : ℕ) → i < length text → 1000 < digits_value 10 (take i text) * 10 + digit_value (get_or text i 0) → None ≡ number_of text
too_large text i inside large =
    let all : 1000 < digits_value 10 text = omega (arith, digits_value_more 10 text i inside, digits_value-take-le 10 text (i + 1) (omega arith)) in
    sym (cond-false (is_count text) (Some (digits_value 10 text)) None (and_right (nat_le (length text) 20) _ (and_right (list_all is_ascii_digit text) _ (and_right (nat_le 1 (digits_value 10 text)) _ (lt-leb _ _ all)))))

pub returns-then-number-gt1000 : goal.returns-then-number-gt1000
returns-then-number-gt1000 c =
    let digit : digit_value (get_or c.args.text.now c.loop-digit.digit-index 0) ≡ c.from.result = grind (arith, nat_tests) in
    too_large c.args.text.now _ c.loop-digit-test.true (omega (arith, digit, c.loop-digit.invariant.value, c.if-number-gt1000.true))

pub loop-digit-preserved : goal.loop-digit-preserved
loop-digit-preserved c =
    let digit : digit_value (get_or c.args.text.now c.loop-digit.digit-index 0) ≡ c.from.result = grind (arith, nat_tests) in record {
      value = omega (arith, digits_value_more 10 c.args.text.now _ c.loop-digit-test.true, c.loop-digit.invariant.value);
      digits = list_all_more is_ascii_digit c.args.text.now _ 0 c.loop-digit-test.true ∙ and_from _ _ c.loop-digit.invariant.digits (sym c.if-not-is_ascii_digit.ensures.value);
      small = c.if-number-gt1000.false;
    }
