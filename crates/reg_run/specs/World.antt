-- What a run sees of the outside.
use Rattle.std.specs.Prelude.{◌≡◌, ℕ, List, Option, length, option_map}
use Rattle.reg_outside.specs.Marks.{Mark}
use Rattle.reg_outside.specs.Streams.{later_moments}
use Rattle.reg_outside.specs.declared.source.Source as source
use Rattle.reg_outside.specs.declared.sink.Sink as sink
use Rattle.reg_outside.specs.declared.disk.Disk as disk
use Rattle.reg_outside.specs.declared.clock.Clock as clock
use Rattle.reg_outside.specs.declared.listener.Listener as listener
use Rattle.reg_outside.specs.Connections.{Connections}
use Rattle.reg_service.specs.Marks.{Output}

-- what a run sees of a listener: its port, its connections where they are told, and the count of
-- faults
pub record Net : Type 0 where
  pub port : Option ℕ
  pub connections : Option Connections
  pub net_faults : ℕ

-- the same of this listener
abbrev pub net_of : {L Conn : Type 0} → listener.Ghosts L Conn → L → Net
net_of l net = record {
  port = l.listens net;
  connections = l.connections net;
  net_faults = l.listener_faults net;
}

-- bytes left and written, how many were flushed, the marks that were set, moments and the disk's
-- bytes, where they are told, the counts of faults, and the listener
pub record World : Type 0 where
  pub left : Option (List ℕ)
  pub reads : ℕ
  pub written : Option (List ℕ)
  pub flushed : Option ℕ
  pub marks : Option (List Mark)
  pub writes : ℕ
  pub moments : Option (List ℕ)
  pub held : Option (List ℕ)
  pub faults : ℕ
  pub net : Net

-- the world of these objects
abbrev pub world : {S K D C : Type 0} → source.Ghosts S → sink.Ghosts K → disk.Ghosts D
    → clock.Ghosts C → S → K → D → C → Net → World
world s k d c input out held time net = record {
  left = s.left input;
  reads = s.read_faults input;
  written = k.written out;
  flushed = k.flushed out;
  marks = k.marks out;
  writes = k.write_faults out;
  moments = c.moments time;
  held = d.contents held;
  faults = d.faults held;
  net = net;
}

-- the same with this disk
abbrev pub holding : {D : Type 0} → disk.Ghosts D → World → D → World
holding d w held = record w { held = d.contents held; faults = d.faults held }

-- with this output
abbrev pub printing : {K : Type 0} → sink.Ghosts K → World → K → World
printing k w out = record w {
  written = k.written out;
  flushed = k.flushed out;
  marks = k.marks out;
  writes = k.write_faults out;
}

-- with this clock
abbrev pub at_clock : {C : Type 0} → clock.Ghosts C → World → C → World
at_clock c w time = record w { moments = c.moments time }

-- and with this listener
abbrev pub at_net : {L Conn : Type 0} → listener.Ghosts L Conn → World → L → World
at_net l w net = record w { net = net_of l net }

-- what a run sees of an output: the bytes that were written, how many of them were flushed, and the
-- count of faults
pub record Out : Type 0 where
  pub written : Option (List ℕ)
  pub flushed : Option ℕ
  pub writes : ℕ

-- the same of this output
abbrev pub out_of : {K : Type 0} → sink.Ghosts K → K → Out
out_of k out = record {
  written = k.written out;
  flushed = k.flushed out;
  writes = k.write_faults out;
}

-- and of the output of a world
abbrev pub output : World → Out
output w = record { written = w.written; flushed = w.flushed; writes = w.writes }

-- the bytes and the marks of the output of a world
abbrev pub marked_output : World → Output
marked_output w = record { written = w.written; marks = w.marks }

-- nothing of the input was read
abbrev pub SameInput : World → World → Type 0
SameInput before after = (after.left ≡ before.left) × (after.reads ≡ before.reads)

-- the listener is as it was
abbrev pub SameNet : World → World → Type 0
SameNet before after = after.net ≡ before.net

-- nothing was written
abbrev pub SameOutput : World → World → Type 0
SameOutput before after =
    (after.written ≡ before.written) × (after.flushed ≡ before.flushed)
    × (after.writes ≡ before.writes)

-- no count of faults of the input, of the output and of the disk changed
abbrev pub SameFaults : World → World → Type 0
SameFaults before after =
    (after.reads ≡ before.reads) × (after.writes ≡ before.writes) × (after.faults ≡ before.faults)

-- the clock was looked at once
abbrev pub LookedOnce : World → World → Type 0
LookedOnce before after = after.moments ≡ option_map later_moments before.moments

-- the clock wasn't looked at
abbrev pub SameClock : World → World → Type 0
SameClock before after = after.moments ≡ before.moments

-- all that was written is flushed
abbrev pub IsFlushed : World → Type 0
IsFlushed after = after.flushed ≡ option_map length after.written
