use Rattle.std.proofs.Common.{None}
use Rattle.reg_pit.specs.Wheel.{AreNotedBy}
use Rattle.reg_pit.proofs.Notes.{noted_more, noted_by}
use Rattle.reg_pit.proofs.wheel.Wheel.note.Goals as goal

pub returns-clause-noted : goal.returns-clause-noted
returns-clause-noted c t =
    let by : AreNotedBy c.args.at c.self.inside.notes.entries = rw (← c.self.view_is) at c.requires in
    rw (← c.self.view_is, c.in_ok-insert.ensures.entries) (noted_more c.args.at t c.args.wheel None c.self.inside.notes.entries c.insert.ensures.was_ordered by)

pub returns-clause-last : goal.returns-clause-last
returns-clause-last c =
    let by : AreNotedBy c.args.at c.self.inside.notes.entries = rw (← c.self.view_is) at c.requires in
    rw c.in_ok-insert.ensures.entries (noted_by c.args.at c.args.wheel c.self.inside.notes.entries by)
