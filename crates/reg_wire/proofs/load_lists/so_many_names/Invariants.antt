use Rattle.std.proofs.Common.{◌≡◌, ◌-◌}
use Rattle.reg_wire.specs.Reading.{items_at, name_at}
use Rattle.reg_wire.proofs.Items.{with_front}
use Rattle.reg_wire.proofs.load_lists.so_many_names.Given as goal

-- what was read and what is still read are the whole list
abbrev pub invariant-loop : goal.invariant-loop
invariant-loop l = with_front l.names (items_at name_at (l.count - l.counter) l.rest) ≡ items_at name_at l.count l.bytes
