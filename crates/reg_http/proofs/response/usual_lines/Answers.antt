use Rattle.std.proofs.Common.{refl}
use Rattle.std.specs.Fmt.{digits}
use Rattle.reg_http.specs.Responses.{first_lines, phrase}
use Rattle.reg_http.proofs.response.usual_lines.Goals as goal

-- the constant is what the definition computes to
pub returns : goal.returns
unfolding first_lines phrase digits
returns c = rw (c.in_ok-extend_from_slice-2.ensures.items, c.in_ok-push_number.ensures, c.in_ok-extend_from_slice.ensures.items, c.in_ok-lines.ensures.items) refl
