-- What a crash may leave of a disk that is filled with recoded payloads.
use Rattle.std.proofs.Common.{◌≡◌, ℕ, List, Option, Some, None, Result, inl, inr, ⊎_elim, sym, ◌∙◌, ap}
use Rattle.std.specs.Prelude.{Ok, IfSome, option_map}
use Rattle.reg_outside.specs.Disk.{Leaves}
use Rattle.reg_keep.specs.Frames.{only_payloads, payloads_in, payloads_of_records}
use Rattle.reg_keep.specs.Begin.{filled_with, WasOrPartly}
use Rattle.reg_keep.specs.Keeping.{or_none}
use Rattle.reg_recode.specs.Recoded.{opened_recoded, payloads_recoded, WasOrRecoded}

module _ {D : Type 0} (moment : D → ℕ) (left_since : D → ℕ → List ℕ → Type 0) where
  -- what is left is more widely said
  pub wider : (P Q : List ℕ → Type 0) (old new : D) → ((c : List ℕ) → P c → Q c) → Leaves moment left_since P old new → Leaves moment left_since Q old new
  wider P Q old new wide all = record {
    later = all.later;
    each = λ c left. wide c (all.each c left);
    since = λ t c le left. ⊎_elim (λ was. inl was) (λ p. inr (wide c p)) (all.since t c le left);
  }

-- a file with the payloads of the records has those of the file that they were read of
pub has_recoded : (held : Option (List ℕ)) (records : List (ℕ × List ℕ)) (c : List ℕ) → IfSome held (λ bytes. opened_recoded bytes ≡ Ok records) → payloads_in c ≡ Ok (payloads_of_records records) → IfSome held (λ bytes. payloads_in c ≡ payloads_recoded bytes)
has_recoded None records c read is = tt
has_recoded (Some bytes) records c read is = is ∙ sym (ap only_payloads read)

pub partly_recoded : (leaves : List ℕ → Type 0) (held : Option (List ℕ)) (records : List (ℕ × List ℕ)) → IfSome held (λ bytes. opened_recoded bytes ≡ Ok records) → (c : List ℕ) → WasOrPartly leaves (payloads_of_records records) c → WasOrRecoded leaves held c
partly_recoded leaves held records read c part = ⊎_elim (λ was. inl was) (λ partly. ⊎_elim (λ damaged. inr (inl damaged)) (λ opens. ⊎_elim (λ none. inr (inr (inl none))) (λ all. inr (inr (inr (has_recoded held records c read all)))) opens) partly) part

-- so has a file that is told
pub told_recoded : (held now : Option (List ℕ)) (records : List (ℕ × List ℕ)) → IfSome held (λ bytes. opened_recoded bytes ≡ Ok records) → IfSome now (λ file. payloads_in file ≡ Ok (payloads_of_records records)) → IfSome held (λ bytes. IfSome now (λ file. payloads_in file ≡ payloads_recoded bytes))
told_recoded None now records read is = tt
told_recoded (Some bytes) None records read is = tt
told_recoded (Some bytes) (Some file) records read is = is ∙ sym (ap only_payloads read)

pub told_written : (held now second : Option (List ℕ)) (records : List (ℕ × List ℕ)) → IfSome held (λ bytes. opened_recoded bytes ≡ Ok records) → now ≡ option_map (filled_with (payloads_of_records records)) second → IfSome held (λ bytes. now ≡ option_map (filled_with (or_none (payloads_recoded bytes))) second)
told_written None now second records read is = tt
told_written (Some bytes) now second records read is = is ∙ sym (ap (λ (r : Result (List (ℕ × List ℕ)) ℕ). option_map (filled_with (or_none (only_payloads r))) second) read)
