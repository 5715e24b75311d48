-- A batch by what is known of groups, and a batch from a consumer's place, where there was memory.
use Rattle.std.proofs.Common.{◌≡◌, ◌≤◌, ◌∙◌, ℕ, List, Bool, Option, Some, Result, Ok, Err, IfOk, subst}
use Rattle.std.proofs.lemmas.Option.{same_Some}
use Rattle.std.specs.List.{AllByRecursion}
use Rattle.reg_prov.specs.declared.ops.Batch.{Batch}
use Rattle.reg_prov.specs.declared.past.GroupPast.{GroupPast}
use Rattle.reg_prov.specs.Batches.{IsBatchOf}
use Rattle.reg_prov.specs.Pasts.{Tell, want_in}
use Rattle.reg_prov.proofs.OneBatch.{batch_told}

module _ (want : ℕ → ℕ → ℕ → Bool) (moments : List ℕ) (clock : ℕ) where
  pub told_on : {E : Type 0} (r : Result Batch E) (place most : ℕ) (pasts : List GroupPast) → AllByRecursion (λ t. t ≤ clock) moments → Tell want clock pasts → IfOk r (λ b. IsBatchOf (want_in pasts) moments clock place most b.ops.items b.place) → IfOk r (λ b. IsBatchOf want moments clock place most b.ops.items b.place)
  told_on (Ok b) place most pasts by tell h = batch_told want moments clock place most pasts b.ops.items b.place by tell h
  told_on (Err e) place most pasts by tell h = h

  pub placed_on : {E : Type 0} (r : Result Batch E) (place most : ℕ) (o : Option ℕ) → Some place ≡ o → IfOk r (λ b. IsBatchOf want moments clock place most b.ops.items b.place) → IfOk r (λ b. (n : ℕ) → o ≡ Some n → IsBatchOf want moments clock n most b.ops.items b.place)
  placed_on (Ok b) place most o e h = λ n q. subst (λ (k : ℕ). IsBatchOf want moments clock k most b.ops.items b.place) (same_Some place n (e ∙ q)) h
  placed_on (Err x) place most o e h = h
