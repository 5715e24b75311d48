-- Numbers of values, by which values that are one are found: those have one digest.
use Rattle.std.specs.Prelude.{ℕ, List, fold, unsigned_abs, ◌+◌, ◌*◌, ◌%◌}
use Rattle.reg_terms.specs.declared.kinds.AttrValue.{AttrValue}
use Rattle.reg_terms.specs.declared.kinds.AttrValue.TheVariants as attr

-- a fold over the bytes of a text
abbrev pub text_digest : List ℕ → ℕ
text_digest bytes = fold (λ (d b : ℕ). d % 4294967296 * 257 + b) 0 bytes

abbrev pub digest : AttrValue → ℕ
digest (attr.Int n) = unsigned_abs n
digest (attr.Text t) = text_digest t
digest (attr.Moment m) = m
