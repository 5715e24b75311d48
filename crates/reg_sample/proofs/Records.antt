-- The records of a table, one after another.
use Rattle.std.proofs.Common.{◌≡◌, ◌≤◌, ◌+◌, ◌-◌, ◌++◌, ℕ, suc, refl, arith}
use Rattle.reg_sample.specs.Lines.{record_text, records}

-- one record more
pub records_more : (seed size first number : ℕ) → first ≤ number → records seed size first (number + 1 - first) ≡ records seed size first (number - first) ++ record_text seed size number
records_more seed size first number later =
    let one : number + 1 - first ≡ suc (number - first) = omega arith in
    let at : first + (number - first) ≡ number = omega arith in
    rw (one, at) refl
