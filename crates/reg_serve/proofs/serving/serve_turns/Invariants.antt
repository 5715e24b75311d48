use Rattle.std.proofs.Common.{◌≡◌, ◌≤◌, ◌+◌, length, None, false, if◌then◌else◌}
use Rattle.reg_http.specs.Messages.{IsUnfinished}
use Rattle.reg_service.specs.Kept.{KeptOn}
use Rattle.reg_service.specs.Marks.{output_of}
use Rattle.reg_serve.specs.KeepingUp.{KeepsUpOn}
use Rattle.reg_serve.specs.Sessions.{Serves}
use Rattle.reg_serve.proofs.serving.serve_turns.Given as goal

-- the messages before the next one were answered
abbrev pub invariant-loop-more : goal.invariant-loop-more
invariant-loop-more g l =
    let written = g.C.Sink.written in
    let moments = g.T.Clock.moments in
    record {
      served : Serves (record { written = written l.fn.conn; moments = moments l.fn.clock; state = l.fn.service.state }) l.fn.reader (record { written = written l.conn; moments = moments l.clock; state = l.service.state }) l.reader;
      fault : l.reader.fault ≡ None;
      none : l.more ≡ false → IsUnfinished l.reader.rest;
      up : KeepsUpOn g.K.Keeper l.fn.service.keeper (output_of g.C.Sink l.fn.conn) (output_of g.C.Sink l.conn) l.service;
      kept : KeptOn g.K.Keeper l.fn.service.state.history l.fn.service.keeper l.service.state.history l.service.keeper;
      left : g.C.Source.left l.conn ≡ g.C.Source.left l.fn.conn;
      reads : g.C.Source.read_faults l.fn.conn ≤ g.C.Source.read_faults l.conn;
      writes : g.C.Sink.write_faults l.fn.conn ≤ g.C.Sink.write_faults l.conn;
    }

abbrev pub decreases-loop-more : goal.decreases-loop-more
decreases-loop-more g l = length l.reader.rest + (if l.more then 1 else 0)
