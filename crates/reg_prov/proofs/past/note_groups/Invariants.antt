use Rattle.std.proofs.Common.{take}
use Rattle.reg_prov.proofs.Grouped.{PastsNoted}
use Rattle.reg_prov.proofs.past.note_groups.Given as goal

abbrev pub invariant-loop-past : goal.invariant-loop-past
invariant-loop-past l = PastsNoted l.boundaries (take l.past-index l.pasts) l.turns
