use Rattle.std.proofs.Common.{length-take-le, take-take, arith}
use Rattle.reg_json.proofs.Arrays.{placed_less}
use Rattle.reg_json.proofs.array.place_text.Goals as goal

-- of the 16 bytes that are copied the first count
pub returns-then-bytes-ge-STEP : goal.returns-then-bytes-ge-STEP
returns-then-bytes-ge-STEP c =
    let bytes = c.args.bytes.now in
    let whole = length-take-le 16 bytes c.if-bytes-ge-STEP.true in
    rw (take-take c.args.len 16 bytes c.if-len-le-STEP.true) at (placed_less c.args.len (omega (arith, c.requires.room)) (omega (arith, whole, c.if-len-le-STEP.true)) c.place_bytes.ensures)
