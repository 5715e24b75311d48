use Rattle.std.proofs.Common.{refl}
use Rattle.std.specs.Fmt.{digits}
use Rattle.json.specs.Print.{escape_byte}
use Rattle.reg_json.specs.Replies.{text, reply_data}
use Rattle.reg_http.specs.Responses.{first_lines, phrase}
use Rattle.reg_calls.proofs.responses.keep_fault_closed.Goals as goal

-- the constant is what the definition computes to
pub returns : goal.returns
unfolding text reply_data escape_byte first_lines phrase digits
returns c = refl
