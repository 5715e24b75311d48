-- The numbers by which callers' keys are found.
use Rattle.std.specs.Prelude.{ℕ, ◌+◌, ◌-◌, ◌*◌, ◌%◌, ◌^◌, nat_lt}
use Rattle.std.specs.Prelude.{List, length, take, drop, if◌then◌else◌}
use Rattle.std.specs.List.{fold}
use Rattle.std.specs.Ordering.{nat_cmp, ordering_then}
use Rattle.std.specs.declared.cmp.Ordering.{Ordering}
use Rattle.std.specs.Int.{w64, from_be_bytes, bit_not}
use Rattle.reg_keys.specs.declared.digest.Digest.{Digest}

-- a number of two
abbrev pub joined : ℕ → ℕ → ℕ
joined front back = ((front * 0x9e37_79b9_7f4a_7c15) % 2 ^ 64 + back) % 2 ^ 64

-- the number of a text of fewer than eight bytes
abbrev pub short_word : List ℕ → ℕ
short_word text = fold (λ number byte. ((number * 256) % 2 ^ 64 + byte) % 2 ^ 64) 0 text

-- the number that a text's first eight bytes are, or all where they are fewer
unfoldable pub first_word : List ℕ → ℕ
first_word text =
    if nat_lt (length text) 8 then short_word text else from_be_bytes w64 (take 8 text)

-- the number that a text's last eight bytes are, or all where they are fewer
unfoldable pub last_word : List ℕ → ℕ
last_word text =
    if nat_lt (length text) 8 then short_word text
    else from_be_bytes w64 (drop (length text - 8) text)

-- the numbers of a caller's key
unfoldable pub digest : List ℕ → List ℕ → Digest
digest by key = record {
  front = bit_not w64 (first_word key);
  back = bit_not w64 (joined (joined (first_word by) (last_word by)) (last_word key));
}

-- by the first number, and then by the second
abbrev pub digest_cmp : Digest → Digest → Ordering
digest_cmp a b = ordering_then (nat_cmp a.front b.front) (nat_cmp a.back b.back)
