use Rattle.reg_json.proofs.Arrays.{members_written}
use Rattle.reg_json.proofs.reply.append_plain.Goals as goal

pub returns : goal.returns
returns c = members_written c.args.buffer.items _ _ _ c.args.members.now c.in_ok-extend_from_slice.ensures.items c.in_ok-bytes.ensures c.in_ok-extend_from_slice-2.ensures.items
