use Rattle.std.proofs.Common.{arith, sym}
use Rattle.std.proofs.lemmas.List.{take_all}
use Rattle.reg_http.proofs.head.window_of.Goals as goal

pub returns-then-bytes-lt-HEAD_LIMIT : goal.returns-then-bytes-lt-HEAD_LIMIT
returns-then-bytes-lt-HEAD_LIMIT c = sym (take_all 16384 c.args.bytes.now (omega (arith, c.if-bytes-lt-HEAD_LIMIT.true)))
