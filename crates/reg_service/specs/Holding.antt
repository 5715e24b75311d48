-- A service whose commands wait to be kept.
use Rattle.std.specs.Prelude.{List, length, take}
use Rattle.reg_terms.specs.declared.command.Stamped.{Stamped}
use Rattle.reg_service.specs.Opening.{Served}
use Rattle.reg_service.specs.Waiting.{Waits}

-- the history from before any waited, by how many commands it had
abbrev pub first_of : Served Waits → List Stamped
first_of s = take (length s.keeper.before) s.state.history
