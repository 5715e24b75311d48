-- Texts one behind the other, with one more, and with the first taken off.
use Rattle.std.proofs.Common.{◌≡◌, ◌++◌, ℕ, List, [], ◌∷◌, length, suc, take, drop, ap, refl, sym, ◌∙◌, arith}
use Rattle.std.specs.Prelude.{IsUtf8}
use Rattle.std.specs.List.{concat}
use Rattle.std.specs.Str.{IsCharBoundary}
use Rattle.std.proofs.lemmas.List.{length-append, take_all, drop_all, take-append-le, drop-append-le, take-append-drop}
use Rattle.std.proofs.lemmas.Str.{IsUtf8-nil, IsUtf8-append, IsCharBoundary-from_take}
use Rattle.reg_terms.specs.Pieces.{pieces, Cuts}

pub cuts_more : (ns bytes item : List ℕ) → Cuts ns bytes → IsUtf8 item → Cuts (ns ++ length item ∷ []) (bytes ++ item)
cuts_more [] bytes item cuts text =
    rw cuts (omega arith, rw (take_all (length item) item (omega arith)) text, drop_all (length item) item (omega arith))
cuts_more (n ∷ ns) bytes item cuts text =
    (rw (length-append bytes item) (omega (arith, cuts.0)), rw (take-append-le n bytes item cuts.0) cuts.1, rw (drop-append-le n bytes item cuts.0) (cuts_more ns (drop n bytes) item cuts.2 text))

pub pieces_more : (ns bytes item : List ℕ) → Cuts ns bytes → pieces (ns ++ length item ∷ []) (bytes ++ item) ≡ pieces ns bytes ++ item ∷ []
pieces_more [] bytes item cuts = rw (cuts, take_all (length item) item (omega arith)) refl
pieces_more (n ∷ ns) bytes item cuts =
    rw (take-append-le n bytes item cuts.0, drop-append-le n bytes item cuts.0) (ap (λ more. take n bytes ∷ more) (pieces_more ns (drop n bytes) item cuts.2))

-- the whole is a text
pub whole : (ns bytes : List ℕ) → Cuts ns bytes → IsUtf8 bytes
whole [] bytes cuts = rw cuts IsUtf8-nil
whole (n ∷ ns) bytes cuts = rw (take-append-drop n bytes) at (IsUtf8-append (take n bytes) (drop n bytes) cuts.1 (whole ns (drop n bytes) cuts.2))

-- the first text ends where a character does
pub boundary : (n : ℕ) (ns bytes : List ℕ) → Cuts (n ∷ ns) bytes → IsCharBoundary bytes n
boundary n ns bytes cuts = IsCharBoundary-from_take bytes n (whole (n ∷ ns) bytes cuts) cuts.0 cuts.1

-- there are as many texts as lengths
pub length_pieces : (ns bytes : List ℕ) → length (pieces ns bytes) ≡ length ns
length_pieces [] bytes = refl
length_pieces (n ∷ ns) bytes = ap suc (length_pieces ns (drop n bytes))

-- the texts one behind the other are the whole
pub joined_pieces : (ns bytes : List ℕ) → Cuts ns bytes → concat (pieces ns bytes) ≡ bytes
joined_pieces [] bytes cuts = sym cuts
joined_pieces (n ∷ ns) bytes cuts = ap (λ (l : List ℕ). take n bytes ++ l) (joined_pieces ns (drop n bytes) cuts.2) ∙ take-append-drop n bytes
