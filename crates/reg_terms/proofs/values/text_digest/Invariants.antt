use Rattle.std.proofs.Common.{◌≡◌, ℕ, ◌+◌, ◌*◌, take}
use Rattle.std.specs.Prelude.{fold, ◌%◌}
use Rattle.reg_terms.proofs.values.text_digest.Given as goal

-- the digest so far is that of the bytes so far
abbrev pub invariant-loop-byte : goal.invariant-loop-byte
invariant-loop-byte l = l.digest ≡ fold (λ (d b : ℕ). d % 4294967296 * 257 + b) 0 (take l.byte-index l.bytes)
