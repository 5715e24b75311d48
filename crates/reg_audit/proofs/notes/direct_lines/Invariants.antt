use Rattle.std.proofs.Common.{◌≡◌, ◌++◌, drop, filter, filter_map}
use Rattle.reg_audit.specs.Lines.{is_told, line_of}
use Rattle.reg_audit.proofs.notes.direct_lines.Given as goal

abbrev pub invariant-loop-event : goal.invariant-loop-event
invariant-loop-event l = l.lines.items ++ filter_map (line_of l.at l.facts) (filter (is_told l.deletion) (drop l.event-index l.events)) ≡ filter_map (line_of l.at l.facts) (filter (is_told l.deletion) l.events)
