-- A head has at least three bytes a field.
use Rattle.std.proofs.Common.{ℕ, suc, ◌*◌, ◌≤◌, List, [], ◌∷◌, ◌++◌, length, arith, ap, length-append, append-nil}
use Rattle.std.specs.List.{flat_map}
use Rattle.std.specs.Prelude.{All}
use Rattle.httparse.specs.Grammar.{LineEnd, crlf, lf, print_end, Field, print_field, IsField, RequestHead, print_request, print_section, print_blank, print_version}
use Rattle.httparse.specs.Spans.{RequestExceeds}
use Rattle.std.proofs.lemmas.List.{length-take}
use Rattle.reg_http.specs.Messages.{window}

end_some : (e : LineEnd) → 1 ≤ length (print_end e)
end_some crlf = omega arith
end_some lf = omega arith

field_some : (f : Field) → IsField f → 3 ≤ length (print_field f)
field_some f h = omega (arith, h.name.0, length-append (f.name ++ 58 ∷ f.raw) (print_end f.end), length-append f.name (58 ∷ f.raw), end_some f.end)

fields_some : (fs : List Field) → All IsField fs → 3 * length fs ≤ length (flat_map print_field fs)
fields_some [] h = omega arith
fields_some (f ∷ fs) h = omega (arith, field_some f (h 0 f (omega arith)), fields_some fs (λ k d lt. h (suc k) d (omega arith)), length-append (print_field f) (flat_map print_field fs))

append_last : (xs ys : List ℕ) → length ys ≤ length (xs ++ ys)
append_last xs ys = omega (arith, length-append xs ys)

head_some : (h : RequestHead) → All IsField h.fields → 3 * length h.fields ≤ length (print_request h)
unfolding print_request
head_some h all =
    omega (
      arith,
      fields_some h.fields all,
      length-append (flat_map print_field h.fields) (print_end h.last),
      append_last (print_blank h.blank ++ h.method ++ 32 ∷ h.target ++ 32 ∷ print_version h.minor ++ print_end h.line_end) (print_section h.fields h.last),
    )

pub never_exceeds : (room : ℕ) (bytes : List ℕ) → 5462 ≤ room → length bytes ≤ 16384 → RequestExceeds room bytes → ⊥
never_exceeds room bytes big small (front, rest, parts, h, (valid, text), many) =
    let whole = ap length text in
    let cut = ap length parts in
    omega (arith, whole, cut, length-append front rest, length-append front (print_end lf), ap length (append-nil (print_request h)), head_some h valid.fields)

pub window_small : (bytes : List ℕ) → length (window bytes) ≤ 16384
window_small bytes = omega (arith, length-take 16384 bytes)
