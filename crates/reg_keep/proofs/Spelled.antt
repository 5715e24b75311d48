-- A journal that was written frame by frame opens to its payloads, whatever stands behind its closed gate.
use Rattle.std.proofs.Common.{◌≡◌, ℕ, ◌+◌, List, [], ◌∷◌, ◌++◌, length, take, drop, Option, Some, None, option_map, IfSome, Ok, Err, refl, sym, ◌∙◌, ap, ap₂, subst, arith, append_assoc, length-append}
use Rattle.std.proofs.lemmas.List.{take_at, drop_all, append-nil}
use Rattle.reg_outside.specs.Disk.{put}
use Rattle.reg_keep.specs.Frames.{frames, frame, frames_of, journal_bytes, AreShort, in_front, gate_after, gate_of, header, opened, payloads_of_records, with_frame, with_frames}
use Rattle.reg_keep.proofs.Parts.{Records, closed}
use Rattle.reg_keep.proofs.Gates.{frame_goes_on, length-frame}

-- the payloads with their places, of which the first is this one
abbrev pub placed : ℕ → List (List ℕ) → Records
placed at [] = []
placed at (p ∷ ps) = (at, p) ∷ placed (at + 5 + length p) ps

pub placed_payloads : (at : ℕ) (ps : List (List ℕ)) → payloads_of_records (placed at ps) ≡ ps
placed_payloads at [] = refl
placed_payloads at (p ∷ ps) = ap (λ (l : List (List ℕ)). p ∷ l) (placed_payloads (at + 5 + length p) ps)

pub gate_after_placed : (at : ℕ) (ps : List (List ℕ)) → gate_after at (placed at ps) ≡ at + length (frames_of ps)
gate_after_placed at [] = omega arith
gate_after_placed at (p ∷ ps) = omega (arith, gate_after_placed (at + 5 + length p) ps, length-append (frame p) (frames_of ps), length-frame p)

pub frames_placed : (at : ℕ) (ps : List (List ℕ)) (rest : List ℕ) → AreShort ps → frames 0 at (frames_of ps ++ 0 ∷ rest) ≡ Ok (placed at ps)
frames_placed at [] rest short = closed 0 at rest (omega arith)
frames_placed at (p ∷ ps) rest short =
    let tail = frames_of ps ++ 0 ∷ rest in
    ap (frames 0 at) (append_assoc (frame p) (frames_of ps) (0 ∷ rest))
    ∙ frame_goes_on at p tail short.0 (omega (arith, length-append (frames_of ps) (0 ∷ rest)))
    ∙ ap (in_front (at, p)) (frames_placed (at + 5 + length p) ps rest short.1)

pub journal_opens : (ps : List (List ℕ)) (rest : List ℕ) → AreShort ps → opened (journal_bytes ps ++ rest) ≡ Ok (placed 8 ps)
journal_opens ps rest short = ap (frames 0 8) (append_assoc (frames_of ps) (0 ∷ []) rest) ∙ frames_placed 8 ps rest short

-- where the bytes are told
pub told_payloads : (ps : List (List ℕ)) (rest : List ℕ) (records : Records) (held : Option (List ℕ)) → AreShort ps → IfSome held (λ bytes. opened bytes ≡ Ok records) → held ≡ Some (journal_bytes ps ++ rest) → payloads_of_records records ≡ ps
told_payloads ps rest records held short opens is =
    let same : Ok records ≡ Ok (placed 8 ps) = sym (subst (λ o. IfSome o (λ bytes. opened bytes ≡ Ok records)) is opens) ∙ journal_opens ps rest short in
    let all : records ≡ placed 8 ps = cc in
    ap payloads_of_records all ∙ placed_payloads 8 ps

pub told_undamaged : (ps : List (List ℕ)) (rest : List ℕ) (at : ℕ) (held : Option (List ℕ)) → AreShort ps → IfSome held (λ bytes. opened bytes ≡ Err at) → held ≡ Some (journal_bytes ps ++ rest) → ⊥
told_undamaged ps rest at held short damaged is =
    let not : Err at ≡ Ok (placed 8 ps) = sym (subst (λ o. IfSome o (λ bytes. opened bytes ≡ Err at)) is damaged) ∙ journal_opens ps rest short in
    cc

pub frames_of-append : (ps qs : List (List ℕ)) → frames_of (ps ++ qs) ≡ frames_of ps ++ frames_of qs
frames_of-append [] qs = refl
frames_of-append (p ∷ ps) qs = ap (λ (l : List ℕ). frame p ++ l) (frames_of-append ps qs) ∙ sym (append_assoc (frame p) (frames_of ps) (frames_of qs))

with_frames-journal_bytes : (ps more : List (List ℕ)) → AreShort ps → with_frames (journal_bytes ps) more ≡ journal_bytes (ps ++ more)
with_frames-journal_bytes ps [] short = ap journal_bytes (sym (append-nil ps))
with_frames-journal_bytes ps (p ∷ qs) short =
    let front = header ++ frames_of ps in
    let size : length front ≡ 8 + length (frames_of ps) = length-append header (frames_of ps) in
    let opens : opened (journal_bytes ps) ≡ Ok (placed 8 ps) = ap opened (sym (append-nil (journal_bytes ps))) ∙ journal_opens ps [] short in
    let gate : gate_of (opened (journal_bytes ps)) ≡ length front = ap gate_of opens ∙ gate_after_placed 8 ps ∙ sym size in
    let more = frames_of (p ∷ qs) in
    let end : length (more ++ 0 ∷ []) ≡ length more + 1 = length-append more (0 ∷ []) in
    let taken : take (length front) (journal_bytes ps) ≡ front = take_at front (0 ∷ []) (length front) refl in
    let none : drop (length front + length (more ++ 0 ∷ [])) (journal_bytes ps) ≡ [] =
    drop_all (length front + length (more ++ 0 ∷ [])) (journal_bytes ps) (omega (arith, length-append front (0 ∷ []), end)) in
    ap (λ (n : ℕ). put n (more ++ 0 ∷ []) (journal_bytes ps)) gate
    ∙ ap₂ (λ (a b : List ℕ). a ++ (more ++ 0 ∷ []) ++ b) taken none
    ∙ append-nil (front ++ (more ++ 0 ∷ []))
    ∙ sym (append_assoc front more (0 ∷ []))
    ∙ ap (λ (l : List ℕ). l ++ 0 ∷ []) (append_assoc header (frames_of ps) more ∙ ap (λ (l : List ℕ). header ++ l) (sym (frames_of-append ps (p ∷ qs))))

pub told_spelled : (ps more : List (List ℕ)) (held new : Option (List ℕ)) → AreShort ps → new ≡ option_map (λ file. with_frames file more) held → held ≡ Some (journal_bytes ps) → new ≡ Some (journal_bytes (ps ++ more))
told_spelled ps more held new short written is = written ∙ ap (option_map (λ file. with_frames file more)) is ∙ ap Some (with_frames-journal_bytes ps more short)

-- one frame is frames of one payload
pub told_alone : (p : List ℕ) (held new : Option (List ℕ)) → new ≡ option_map (λ file. with_frames file (p ∷ [])) held → new ≡ option_map (λ file. with_frame file p) held
told_alone p None new is = is
told_alone p (Some file) new is = is ∙ ap (λ (l : List ℕ). Some (put (gate_of (opened file)) (l ++ 0 ∷ []) file)) (append-nil (frame p))
