use Rattle.std.proofs.Common.{arith}
use Rattle.std.specs.Int.{w64}
use Rattle.reg_wire.proofs.Exact.{number_is}
use Rattle.reg_wire.proofs.fields.u64_at.Goals as goal

pub returns : goal.returns
returns c = number_is w64 c.args.bytes.now c.split_at.result.0.now c.split_at.result.1.now c.from_le_bytes-number.result c.if-bytes-lt8.false (λ i. omega (arith, c.type_inv.bytes i)) c.split_at.ensures.front c.split_at.ensures.back c.from_le_bytes-number.ensures
