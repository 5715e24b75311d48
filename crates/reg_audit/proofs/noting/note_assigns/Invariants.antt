use Rattle.std.proofs.Common.{◌≡◌, length}
use Rattle.reg_audit.proofs.Changing.{AreLeft}
use Rattle.reg_audit.proofs.noting.note_assigns.Given as goal

-- the changes that are left lead to what all of them do
abbrev pub invariant-loop-change : goal.invariant-loop-change
invariant-loop-change l = AreLeft l.at l.change-iterator.rest.items l.fn.changes.items l.past l.fn.past × (l.change-iterator.rest.len ≡ length l.change-iterator.rest.items)
