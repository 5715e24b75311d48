use Rattle.std.proofs.Common.{◌==◌, arith, sym, eq-eqb}
use Rattle.std.proofs.lemmas.List.Sums.{position_or_len_is}
use Rattle.reg_http.proofs.pieces.place.Goals as goal

pub returns-then-other-byte-clause-place : goal.returns-then-other-byte-clause-place
returns-then-other-byte-clause-place c =
    sym (position_or_len_is (λ other. other == c.args.byte) c.args.bytes.now c.loop-i.i 0 (omega arith) c.loop-i.invariant (λ _. eq-eqb _ _ c.if-other-byte.true))

pub returns-clause-place : goal.returns-clause-place
returns-clause-place c =
    sym (position_or_len_is (λ other. other == c.args.byte) c.args.bytes.now _ 0 (omega arith) (λ k h. c.loop-i.invariant k (omega arith)) (λ h. absurd (omega arith)))
