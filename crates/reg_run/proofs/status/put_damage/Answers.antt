use Rattle.std.proofs.Common.{◌≡◌, ◌++◌, ◌∷◌, ◌∙◌, [], List, ℕ, decimal, drop, set, ap, arith, refl}
use Rattle.std.proofs.lemmas.Fmt.{length-decimal-le}
use Rattle.std.proofs.lemmas.List.{drop-set, drop_all}
use Rattle.reg_run.proofs.status.put_damage.Goals as goal

-- there is room for the words before the digits
pub put_text-requires : goal.put_text-requires
put_text-requires c = omega (arith, c.put_digits-digits.ensures.begins, length-decimal-le 20 c.args.place (omega arith) (omega (arith, c.ranges.place.fits)) c.ranges.place.fits)

-- the words, the digits and LF
pub returns-clause-note : goal.returns-clause-note
returns-clause-note c =
    let last : drop 31 (set c.args.buffer.now 31 10) ≡ 10 ∷ [] = drop-set c.args.buffer.now 31 10 (omega arith) ∙ ap (λ (l : List ℕ). 10 ∷ l) (drop_all 32 c.args.buffer.now (omega arith)) in
    let digits : drop c.put_digits-digits.result c.put_digits-digits.new.buffer ≡ decimal c.args.place ++ 10 ∷ [] = c.put_digits-digits.ensures.digits ∙ ap (λ (l : List ℕ). decimal c.args.place ++ l) last in
    rw (c.put_text.ensures.text, digits) refl
