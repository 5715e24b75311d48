-- What is told of a command that was kept under a key.
use Rattle.reg_machine.specs.Keys.{KeptCommand}
use Rattle.reg_machine.specs.declared.keyed.Keyed.{Keyed}

-- its number, and the id of what it made
abbrev pub told_of : KeptCommand → Keyed
told_of k = record { number = k.number; id = k.id }
