-- Frames written one behind the other, from a closed gate on.
use Rattle.std.proofs.Common.{◌≡◌, ℕ, ◌+◌, ◌≤◌, List, [], ◌∷◌, ◌++◌, length, Option, option_map, IfSome, refl, sym, ◌∙◌, ap, subst, arith, append_assoc, length-append}
use Rattle.std.proofs.lemmas.List.{append-nil}
use Rattle.reg_outside.specs.Disk.{put}
use Rattle.reg_keep.specs.Frames.{frame, frames_of, length_bytes, AreShort}
use Rattle.reg_keep.specs.Settled.{behind_gate}
use Rattle.reg_keep.specs.Waiting.{Waiting, Adds, end_of, with_waiting}
use Rattle.reg_keep.proofs.Writes.{told_both}
use Rattle.reg_keep.proofs.Waits.{none_wait}
use Rattle.reg_keep.proofs.Spelled.{frames_of-append}

-- the length and the bytes of the first payload, and the frames of others
abbrev pub so_many : List ℕ → List (List ℕ) → List ℕ
so_many first done = (length_bytes (length first) ++ first) ++ frames_of done

-- what is written so far, and what is left
pub record Filling (gate : ℕ) (first : List ℕ) (all : List (List ℕ)) (old : Option (List ℕ)) (left : List (List ℕ)) (held : Option (List ℕ)) (at : ℕ) : Type 0 where
  pub done : List (List ℕ)
  pub split : all ≡ done ++ left
  pub short : AreShort left
  pub bytes : held ≡ option_map (put (gate + 1) (so_many first done)) old
  pub place : at ≡ gate + 1 + length (so_many first done)

module _ (gate : ℕ) (first : List ℕ) (all : List (List ℕ)) (old : Option (List ℕ)) where
  filling_start : (held : Option (List ℕ)) (at : ℕ) (piece : List ℕ) → piece ≡ length_bytes (length first) → AreShort all → held ≡ option_map (put (gate + 1) (piece ++ first)) old → at ≡ gate + 1 + length (piece ++ first) → Filling gate first all old all held at
  filling_start held at piece same short is place =
      let none : piece ++ first ≡ so_many first [] = ap (λ (l : List ℕ). l ++ first) same ∙ sym (append-nil (length_bytes (length first) ++ first)) in
      record {
        done = [];
        split = refl;
        short = short;
        bytes = is ∙ ap (λ (l : List ℕ). option_map (put (gate + 1) l) old) none;
        place = place ∙ ap (λ (l : List ℕ). gate + 1 + length l) none;
      }

  push : (done : List (List ℕ)) (p : List ℕ) → so_many first done ++ frame p ≡ so_many first (done ++ p ∷ [])
  push done p =
      append_assoc (length_bytes (length first) ++ first) (frames_of done) (frame p)
      ∙ ap (λ (l : List ℕ). (length_bytes (length first) ++ first) ++ l) (ap (λ (l : List ℕ). frames_of done ++ l) (sym (append-nil (frame p))) ∙ sym (frames_of-append done (p ∷ [])))

  pub filling_step : (left : List (List ℕ)) (held : Option (List ℕ)) (at : ℕ) (p : List ℕ) (more : List (List ℕ)) (new : Option (List ℕ)) (next : ℕ) (piece : List ℕ)
      → Filling gate first all old left held at → left ≡ p ∷ more → piece ≡ frame p → IfSome old (λ h. gate + 1 ≤ length h) → new ≡ option_map (put at piece) held → next ≡ at + length piece
      → Filling gate first all old more new next
  filling_step left held at p more new next piece f is framed fits written place =
      let short : AreShort (p ∷ more) = subst (λ l. AreShort l) is f.short in
      let one : so_many first f.done ++ piece ≡ so_many first (f.done ++ p ∷ []) = ap (λ (l : List ℕ). so_many first f.done ++ l) framed ∙ push f.done p in
      record {
        done = f.done ++ p ∷ [];
        split = f.split ∙ ap (λ (l : List (List ℕ)). f.done ++ l) is ∙ sym (append_assoc f.done (p ∷ []) more);
        short = short.1;
        bytes = told_both (gate + 1) at (so_many first f.done) piece old held new fits f.place f.bytes written ∙ ap (λ (l : List ℕ). option_map (put (gate + 1) l) old) one;
        place = omega (arith, place, f.place, length-append (so_many first f.done) piece, ap (λ (l : List ℕ). length l) one);
      }

  every : (left : List (List ℕ)) (held : Option (List ℕ)) (at : ℕ) (f : Filling gate first all old left held at) → length left ≡ 0 → f.done ≡ all
  every [] held at f is = sym (f.split ∙ append-nil f.done)
  every (p ∷ left) held at f is = absurd (omega arith)

  pub filling_done : (left : List (List ℕ)) (held : Option (List ℕ)) (at : ℕ) (new : Option (List ℕ)) → Filling gate first all old left held at → length left ≡ 0 → IfSome old (λ h. gate + 1 ≤ length h) → new ≡ option_map (put at (0 ∷ [])) held
      → new ≡ option_map (put (gate + 1) (behind_gate first all)) old
  filling_done left held at new f is fits written =
      told_both (gate + 1) at (so_many first f.done) (0 ∷ []) old held new fits f.place f.bytes written ∙ ap (λ (l : List (List ℕ)). option_map (put (gate + 1) (so_many first l ++ (0 ∷ []))) old) (every left held at f is)

  pub filling_gate : (left : List (List ℕ)) (held : Option (List ℕ)) (at : ℕ) → Filling gate first all old left held at → length left ≡ 0 → at ≡ gate + length (frames_of (first ∷ all))
  filling_gate left held at f is = omega (arith, f.place, ap (λ (l : List (List ℕ)). length (so_many first l)) (every left held at f is))

  -- the first payload's length and bytes, which wait for the place behind the gate
  pub filling_added : (piece : List ℕ) (start w : Waiting) (now : Option (List ℕ)) → piece ≡ length_bytes (length first) → AreShort all → start ≡ (gate + 1, []) → Adds (piece ++ first) start old w now
      → Filling gate first all old all (with_waiting w now) (end_of w)
  filling_added piece start w now same short is added =
      let adds : Adds (piece ++ first) (gate + 1, []) old w now = subst (λ (s : Waiting). Adds (piece ++ first) s old w now) is added in
      let behind : end_of (gate + 1, []) ≡ gate + 1 = omega arith in
      filling_start (with_waiting w now) (end_of w) piece same short
      (adds.whole ∙ ap (option_map (put (end_of (gate + 1, [])) (piece ++ first))) (none_wait (gate + 1) old) ∙ ap (λ (n : ℕ). option_map (put n (piece ++ first)) old) behind)
      (omega (arith, adds.long))
