use Rattle.std.proofs.Common.{◌≡◌, ◌++◌}
use Rattle.std.specs.List.{flat_map}
use Rattle.reg_terms.specs.declared.rows.GroupRow.{GroupRow}
use Rattle.reg_access.specs.Reminders.{reminder_of}
use Rattle.reg_access.proofs.reminding.reminders.Given as goal

-- the lines so far, and those of the groups that are left, are all
abbrev pub invariant-loop-row : goal.invariant-loop-row
invariant-loop-row g l =
    l.text.items ++ flat_map (λ (row : GroupRow). reminder_of l.machine.history l.machine.clock row.id) l.row-iterator
    ≡ flat_map (λ (row : GroupRow). reminder_of l.machine.history l.machine.clock row.id) l.initial.row-iterator
