use Rattle.std.proofs.Common.{refl}
use Rattle.json.specs.Print.{escape_byte}
use Rattle.reg_json.specs.Replies.{text, reply_data}
use Rattle.reg_json.proofs.reply.keep_fault_line.Goals as goal

-- the constant is what the definition computes to
pub returns : goal.returns
unfolding text reply_data escape_byte
returns c = refl
