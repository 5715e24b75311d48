-- What is to be done with a slot, and what becomes of a connection.
use Rattle.std.specs.Prelude.{Bool, true, false}
use Rattle.reg_tcp.specs.declared.conn.After.{After}
use Rattle.reg_tcp.specs.declared.conn.After.TheVariants.{Kept, Ending, Closed}
use Rattle.reg_tcp.specs.declared.slot.Step.{Step}
use Rattle.reg_tcp.specs.declared.slot.Step.TheVariants.{Wait, Queue, Close}

-- it goes into the queue
abbrev pub is_queue : Step → Bool
is_queue Wait = false
is_queue Queue = true
is_queue Close = false

-- it stays open
abbrev pub is_kept : After → Bool
is_kept (Kept link) = true
is_kept (Ending link) = false
is_kept Closed = false
