use Rattle.std.proofs.Common.{arith}
use Rattle.reg_access.specs.declared.state.StateKind.TheVariants as kind
use Rattle.reg_access.proofs.Noting.{Noted, on_ok, three_noted}
use Rattle.reg_access.proofs.listing.note_ending.Goals as goal

pub returns : goal.returns
returns c = on_ok c.note-3.result
    (Noted c.later_of-over.result c.args.end kind.Overdue c.note-2.new.states.items c.note-3.new.states.items) _
    (λ last. three_noted c.args.ends c.args.from c.args.end c.later_of-due.result c.later_of-over.result c.min.result c.min-2.result
    c.args.states.now.items c.note.new.states.items c.note-2.new.states.items c.note-3.new.states.items
    (omega arith) (rw c.due_of.ensures at c.later_of-due.ensures.value) c.later_of-over.ensures.value
    (rw c.micros.ensures at c.min.ensures) (rw c.micros-2.ensures at c.min-2.ensures)
    c.in_ok-note.ensures c.in_ok-note-2.ensures last)
    c.note-3.ensures
