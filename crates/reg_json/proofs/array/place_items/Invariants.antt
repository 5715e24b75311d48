use Rattle.std.proofs.Common.{length}
use Rattle.reg_json.proofs.Arrays.{AreComing}
use Rattle.reg_json.proofs.array.place_items.Given as goal

-- what is written, and the texts to come, are the whole array
abbrev pub invariant-loop-text : goal.invariant-loop-text
invariant-loop-text l = AreComing l.fn.room l.room l.fn.start l.at l.later l.rest l.pieces l.fn.texts

abbrev pub decreases-loop-text : goal.decreases-loop-text
decreases-loop-text l = length l.pieces
