use Rattle.std.proofs.Common.{length}
use Rattle.reg_prov.proofs.Grouped.{GroupNoted}
use Rattle.reg_prov.proofs.past.note_group.Given as goal

abbrev pub invariant-loop-row : goal.invariant-loop-row
invariant-loop-row l = GroupNoted l.grants l.boundaries l.group l.rows l.rest l.initial.turns l.turns

abbrev pub decreases-loop-row : goal.decreases-loop-row
decreases-loop-row l = length l.rest
