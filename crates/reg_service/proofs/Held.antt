-- Payloads that wait behind a history.
use Rattle.std.proofs.Common.{◌≡◌, ℕ, ◌+◌, ◌<◌, ◌≤◌, ◌^◌, List, [], ◌∷◌, ◌++◌, length, take, Some, Result, sym, ◌∙◌, ap, ap₂, subst, arith, append_assoc, length-append}
use Rattle.std.specs.Prelude.{◌⊎◌}
use Rattle.reg_outside.specs.Disk.{Leaves}
use Rattle.reg_terms.specs.declared.command.Stamped.{Stamped}
use Rattle.reg_keep.specs.Frames.{AreShort}
use Rattle.reg_keep.specs.Keeping.{IsWithFront, AreWithFront}
use Rattle.reg_keep.specs.Pieces.{KeptSince}
use Rattle.reg_keep.proofs.OneByOne.{run_since}
use Rattle.reg_service.specs.Opening.{payloads_of}
use Rattle.reg_service.specs.Waiting.{Waits, all_of, HeldSince}

pub short_push : (held : List (List ℕ)) (p : List ℕ) → AreShort held → length p < 2 ^ 32 → AreShort (held ++ p ∷ [])
short_push [] p short fits = (fits, tt)
short_push (q ∷ held) p short fits = (short.0, short_push held p short.1 fits)

module _ (all : List (List ℕ)) (old new : Waits) (same : new.before ≡ old.before) (f : (n : ℕ) × (n ≤ length all) × (new.held ≡ old.held ++ take n all)) where
  grown : all_of new ≡ all_of old ++ take f.0 all
  grown =
      ap₂ (λ (h : List Stamped) (l : List (List ℕ)). payloads_of h ++ l) same f.2
      ∙ sym (append_assoc (payloads_of old.before) old.held (take f.0 all))

  run : Leaves (λ (l : List (List ℕ)). length l) KeptSince (IsWithFront (all_of old) all) (all_of old) (all_of new)
  run = run_since (λ (l : List (List ℕ)). l) all (all_of old) (all_of new) (f.0, f.1, grown)

  -- the same moment, by how many there are
  at : (t : ℕ) (r : Result (List (List ℕ)) ℕ) → HeldSince new t r → KeptSince (all_of new) (length (payloads_of old.before) + t) r
  at t r left = subst (λ (h : List Stamped). KeptSince (all_of new) (length (payloads_of h) + t) r) same left

  -- what a stop would leave while more begin to wait
  pub held_run : Leaves (λ (w : Waits). length w.held) HeldSince (IsWithFront (all_of old) all) old new
  held_run = record {
    later = omega (arith, ap length f.2, length-append old.held (take f.0 all));
    each = λ r left. run.each r (subst (λ (n : ℕ). KeptSince (all_of new) n r) (sym (length-append (payloads_of old.before) old.held)) (at (length old.held) r left));
    since = λ t r le left. run.since (length (payloads_of old.before) + t) r (omega (arith, le, length-append (payloads_of old.before) old.held)) (at t r left);
  }

  -- and which there are then
  pub held_told : AreWithFront (Some (all_of old)) all (Some (all_of new))
  held_told = (f.0, f.1, ap Some grown)
